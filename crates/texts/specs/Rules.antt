-- The reading of a rules text: its answer, and the lines afterwards.
use Rattle.std.specs.Prelude.{ℕ, cond, List, length, Some, None, Ok, Err, codes, Option, Result}
use Rattle.std.specs.Str.{bytes_eq}
use Rattle.mtl.specs.Entering.{enter_answer, lines_after}
use Rattle.mtl.specs.declared.line.Line.{Line}
use Rattle.fields.specs.Cuts.{shaped}
use Rattle.texts.specs.Faults.{Told, in_text, in_table, told}
use Rattle.texts.specs.Forms.{formed}
use Rattle.texts.specs.Outcomes.{Outcome, refuses, read_lines, read_text}
use Rattle.texts.specs.declared.entry.Entry.{Entry}
use Rattle.texts.specs.declared.fault.TextFault.{TextFault}

-- the table's own refusal of the line n
abbrev pub by_table : ℕ → Result (Unit {0}) ℕ → Option Told
by_table n (Ok u) = None
by_table n (Err q) = Some (in_table q n)

-- a line whose fields are in form is entered
abbrev pub enters : ℕ → List Line → Entry → Outcome Line
enters n T e = record { entries = lines_after T e.letter e.fields; refused = by_table n (enter_answer T e.letter e.fields) }

abbrev pub enters_if : ℕ → List Line → Result Entry TextFault → Outcome Line
enters_if n T (Ok e) = enters n T e
enters_if n T (Err f) = refuses T (told f)

-- one line of values: six fields, each in form, then the table's questions
abbrev pub read_rule : ℕ → List Line → List (List ℕ) → Outcome Line
read_rule n T fs = cond (shaped 6 fs) (enters_if n T (formed n (length T) fs)) (refuses T (in_text 30 n 0))

-- the line of names, then lines of values
abbrev pub read_named : List ℕ → List (List ℕ) → List Line → Outcome Line
read_named names ls T = cond (bytes_eq names (codes "line kind from to left right")) (read_lines read_rule 2 ls T) (refuses T (in_text 29 1 0))

abbrev pub read_rules : List ℕ → List Line → Outcome Line
read_rules = read_text read_named
