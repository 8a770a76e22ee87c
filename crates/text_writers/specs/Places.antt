-- Where a refusal of a text stands.
use Rattle.std.specs.Prelude.{◌≡◌, ℕ, ◌+◌, ◌-◌, ◌≤◌, Bool, cond, List, [], length, Some, ◌≢◌, slice_index_or}
use Rattle.mtl.specs.Lines.{Rules}
use Rattle.mtl.specs.declared.row.Row.{Row}
use Rattle.fields.specs.Bytes.{ended}
use Rattle.fields.specs.Cuts.{lines_of, fields_of}
use Rattle.texts.specs.Logs.{read_log}
use Rattle.texts.specs.Rules.{read_rules}
use Rattle.texts.specs.declared.fault.Told.{Told}

-- how many lines a text has, with a last one that does not end
abbrev pub lines_in : List ℕ → ℕ
lines_in text = length (lines_of text) + cond (ended text) 0 1

-- the line told is one of the text, or 0 by question 27; question 31 tells one of that line's fields, and no other question tells a field
pub record Within (text : List ℕ) (t : Told) : Type 0 where
  pub line : t.line ≤ lines_in text
  pub none : t.line ≡ 0 → t.number ≡ 27
  pub form : t.number ≡ 31 → (1 ≤ t.field) × (t.field ≤ length (fields_of (slice_index_or (lines_of text) (t.line - 1) [])))
  pub other : (t.number ≢ 31) → t.field ≡ 0

-- for every text, whatever was entered before
abbrev pub RulesWithin : Type 0
RulesWithin = (text : List ℕ) (T : Rules) (t : Told) → (read_rules text T).refused ≡ Some t → Within text t

abbrev pub LogsWithin : Type 0
LogsWithin = (room : List Row → Row → Bool) (text : List ℕ) (R : List Row) (t : Told) → (read_log room text R).refused ≡ Some t → Within text t
