-- What a refusal of a text tells.
pub use Rattle.texts.specs.declared.fault.Told.{Told}
use Rattle.std.specs.Prelude.{ℕ, Some, None, Ok, Err, Option, Result}
use Rattle.logs.specs.Answers.{add_number}
use Rattle.mtl.specs.Entering.{line_number}
use Rattle.texts.specs.declared.fault.Layer.{Layer}
use Rattle.texts.specs.declared.fault.Layer.TheVariants.{Text, Table as TableLayer, Log as LogLayer}
use Rattle.texts.specs.declared.fault.TextFault.{TextFault}
use Rattle.texts.specs.declared.fault.TextFault.TheVariants.{TooLong, WrongByte, WrongNames, WrongFields, WrongForm, Table, Log}

abbrev pub tells : ℕ → Layer → ℕ → ℕ → Told
tells number layer line field = record { number = number; layer = layer; line = line; field = field }

-- a refusal by the text itself, by the table, by the log; only a field that is not in form is told by its number
abbrev pub in_text : ℕ → ℕ → ℕ → Told
in_text number line field = tells number Text line field

abbrev pub in_table : ℕ → ℕ → Told
in_table number line = tells number TableLayer line 0

abbrev pub in_log : ℕ → ℕ → Told
in_log number line = tells number LogLayer line 0

-- the number, the layer, the line and the field of each refusal
abbrev pub told : TextFault → Told
told TooLong = in_text 27 0 0
told (WrongByte line) = in_text 28 line 0
told WrongNames = in_text 29 1 0
told (WrongFields line) = in_text 30 line 0
told (WrongForm line field) = in_text 31 line field
told (Table line fault) = in_table (line_number fault) line
told (Log line fault) = in_log (add_number fault) line

-- what an answer of the code tells, if it refuses
abbrev pub told_by : {X : Type 0} → Result X TextFault → Option Told
told_by (Ok x) = None
told_by (Err e) = Some (told e)
