-- What the answers say of the subject: of the table and the rows that the texts give.
use Rattle.std.specs.Prelude.{◌≡◌, ℕ, ◌*◌, ◌≤◌, List, [], take, None, Ok, Err, Result}
use Rattle.mtl.specs.declared.row.Row.{Row}
use Rattle.mtl.specs.declared.ruling.Claim.{Claim}
use Rattle.mtl.specs.declared.ruling.Settled.{Settled}
use Rattle.mtl.specs.Checking.{accepted, refused}
use Rattle.mtl.specs.Laws.{CheckSays, SettleSays}
use Rattle.mtl.specs.Lines.{Rules}
use Rattle.texts.specs.Outcomes.{Outcome}
use Rattle.c_api.specs.declared.answer.Refused.{Refused}
use Rattle.c_api.specs.declared.answer.ReadAnswer.{ReadAnswer}
use Rattle.c_api.specs.declared.answer.CheckAnswer.{CheckAnswer}
use Rattle.c_api.specs.declared.answer.SettleAnswer.{SettleAnswer}
use Rattle.c_api.specs.Answers.{of_claim, of_settled}
use Rattle.c_api.specs.Readings.{table_in, rows_in, room_for}

-- the number is 0 only where the text is read without fault
abbrev pub ReadMeans : {X : Type 0} → Outcome X → ReadAnswer → Type 0
ReadMeans o a = a.refusal.number ≡ 0 → o.refused ≡ None

-- the texts are read without fault, as this table and these rows
pub record Reads (rules log : List ℕ) (T : Rules) (R : List Row) : Type 0 where
  pub table : table_in rules ≡ Ok T
  pub rows : rows_in log ≡ Ok R

-- a table and rows are read, of which this holds
abbrev pub ReadSome : List ℕ → List ℕ → (Rules → List Row → Type 0) → Type 0
ReadSome rules log P = (T : Rules) × (R : List Row) × Reads rules log T R × P T R

-- this holds of the table and the rows, if both are read
abbrev pub ReadAny : List ℕ → List ℕ → (Rules → List Row → Type 0) → Type 0
ReadAny rules log P = (T : Rules) (R : List Row) → Reads rules log T R → P T R

-- an accepted certificate is one of the claim, which is true in every continuation of the rows;
-- of a refused one, the question and the node are the first that fail, and it is a certificate of no claim
abbrev pub CheckFound : List ℕ → List ℕ → List ℕ → Result Claim Refused → Type 0
CheckFound rules log cert (Ok c) = ReadSome rules log (λ T R. CheckSays T R cert 4096 (accepted c))
CheckFound rules log cert (Err e) = (1 ≤ e.number) × ReadAny rules log (λ T R. CheckSays T R cert 4096 (refused e.number e.node))

-- an accepted ruling is true in every continuation, and the bytes at the front of the output are its shortest certificate;
-- a refusal tells the first question answered no, and a line in reach is never told open
abbrev pub SettleFound : List ℕ → List ℕ → ℕ → ℕ → ℕ → List ℕ → Result Settled Refused → Type 0
SettleFound rules log n i room out (Ok s) = ReadSome rules log (λ T R. SettleSays T R n i (room_for room) (Ok s) (take (6 * s.size) out))
SettleFound rules log n i room out (Err e) = (1 ≤ e.number) × ReadAny rules log (λ T R. SettleSays T R n i (room_for room) (Err e.number) [])

-- the numbers answered are those of something found that says so; the number of its refusal is 0 only where it is accepted
abbrev pub CheckMeans : List ℕ → List ℕ → List ℕ → CheckAnswer → Type 0
CheckMeans rules log cert a = (found : Result Claim Refused) × (a ≡ of_claim found) × CheckFound rules log cert found

abbrev pub SettleMeans : List ℕ → List ℕ → ℕ → ℕ → ℕ → List ℕ → SettleAnswer → Type 0
SettleMeans rules log n i room out a = (found : Result Settled Refused) × (a ≡ of_settled found) × SettleFound rules log n i room out found
