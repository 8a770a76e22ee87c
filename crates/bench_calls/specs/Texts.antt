-- The lines and the rows of two texts, as far as they can be read, and what Check and Settle answer on them.
use Rattle.std.specs.Prelude.{ℕ, List, [], Result}
use Rattle.mtl.specs.Checking.{Verdict, check_answer}
use Rattle.mtl.specs.Lines.{Rules}
use Rattle.mtl.specs.Settling.{Lengths, settle_answer}
use Rattle.mtl.specs.declared.row.Row.{Row}
use Rattle.mtl.specs.declared.ruling.Settled.{Settled}
use Rattle.texts.specs.Logs.{read_log}
use Rattle.texts.specs.Rules.{read_rules}
use Rattle.logs.specs.Masks.{mask_room}

-- a rules text is read into an empty draft, a log text into an empty mask log; what stands before a fault is kept
abbrev pub lines_in : List ℕ → Rules
lines_in text = (read_rules text []).entries

abbrev pub rows_in : List ℕ → List Row
rows_in text = (read_log mask_room text []).entries

-- Check, with a stack of 4,096 claims
abbrev pub check_on : List ℕ → List ℕ → List ℕ → Verdict
check_on rules log cert = check_answer (lines_in rules) (rows_in log) cert 4096

-- Settle, with buffers of these lengths
abbrev pub settle_on : List ℕ → List ℕ → ℕ → ℕ → Lengths → Result Settled ℕ
settle_on rules log n i ls = settle_answer (lines_in rules) (rows_in log) n i ls
