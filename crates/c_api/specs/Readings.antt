-- What the calls find, before it is put into numbers: each step goes on from what the one before gave.
use Rattle.std.specs.Prelude.{ℕ, List, [], Some, None, Ok, Err, Option, Result}
use Rattle.mtl.specs.declared.line.Line.{Line}
use Rattle.mtl.specs.declared.row.Row.{Row}
use Rattle.mtl.specs.declared.ruling.Claim.{Claim}
use Rattle.mtl.specs.declared.ruling.Settled.{Settled}
use Rattle.mtl.specs.declared.table.Table.{Table}
use Rattle.mtl.specs.Lines.{Rules}
use Rattle.mtl.specs.Tables.{lines_of}
use Rattle.logs.specs.declared.mask.MaskLog.{MaskLog}
use Rattle.logs.specs.contracts.mask.MaskLogReadable.TheImpl.{ghosts as MaskRows}
use Rattle.mtl.specs.Checking.{Verdict, accepted, refused, check_answer}
use Rattle.mtl.specs.Settling.{Lengths, lengths, settle_answer}
use Rattle.texts.specs.Logs.{read_log}
use Rattle.texts.specs.Outcomes.{Outcome}
use Rattle.texts.specs.Rules.{read_rules}
use Rattle.logs.specs.Masks.{mask_room}
use Rattle.texts.specs.declared.fault.Told.{Told}
use Rattle.c_api.specs.declared.answer.Refused.{Refused}
use Rattle.c_api.specs.declared.refusal.Refusal.{Refusal}
use Rattle.c_api.specs.Refusals.{in_rules, in_log, at_node, refused_by}

-- an answer of the code, with its refusal in numbers and its value as a definition sees it
abbrev pub telling_as : {A B : Type 0} → (A → B) → Result A Refusal → Result B Refused
telling_as view (Ok a) = Ok (view a)
telling_as view (Err f) = Err (refused_by f)

abbrev pub telling : {A : Type 0} → Result A Refusal → Result A Refused
telling r = telling_as (λ a. a) r

abbrev pub table_told : Result Table Refusal → Result Rules Refused
table_told r = telling_as lines_of r

abbrev pub rows_told : Result MaskLog Refusal → Result (List Row) Refused
rows_told r = telling_as MaskRows.rows r

-- a refusal ends the call
abbrev pub and_then : {A B : Type 0} → Result A Refused → (A → Result B Refused) → Result B Refused
and_then (Ok a) f = f a
and_then (Err e) f = Err e

-- a rules text is read into an empty draft, a log text into an empty mask log
abbrev pub rules_read : List ℕ → Outcome Line
rules_read text = read_rules text []

abbrev pub log_read : List ℕ → Outcome Row
log_read text = read_log mask_room text []

-- what was read, unless the text is refused
abbrev pub unless_refused : {A : Type 0} → (Told → Refused) → Option Told → A → Result A Refused
unless_refused place None a = Ok a
unless_refused place (Some t) a = Err (place t)

abbrev pub table_in : List ℕ → Result Rules Refused
table_in text = unless_refused in_rules (rules_read text).refused (rules_read text).entries

abbrev pub rows_in : List ℕ → Result (List Row) Refused
rows_in text = unless_refused in_log (log_read text).refused (log_read text).entries

abbrev pub by_verdict : Verdict → Result Claim Refused
by_verdict (accepted c) = Ok c
by_verdict (refused q k) = Err (at_node q k)

abbrev pub by_number : Result Settled ℕ → Result Settled Refused
by_number (Ok s) = Ok s
by_number (Err q) = Err (at_node q 0)

-- Check on the texts' table and rows, with a stack of 4,096 claims
abbrev pub check_finds : List ℕ → List ℕ → List ℕ → Result Claim Refused
check_finds rules log cert = and_then (table_in rules) (λ T. and_then (rows_in log) (λ R. by_verdict (check_answer T R cert 4096)))

-- Settle on them, with work buffers of 8,192 cells and an output of so many bytes
abbrev pub room_for : ℕ → Lengths
room_for out = lengths 8192 8192 out

abbrev pub settle_finds : List ℕ → List ℕ → ℕ → ℕ → ℕ → Result Settled Refused
settle_finds rules log n i out = and_then (table_in rules) (λ T. and_then (rows_in log) (λ R. by_number (settle_answer T R n i (room_for out))))
