-- A case as its calls see it: its state, what happens to it, and runs of such events.
use Rattle.std.specs.Prelude.{◌≡◌, ℕ, Bool, cond, ◌&&◌, List, [], ◌∷◌, length, Some, None, Ok, Err, Option, Result, ◌==◌, nat_lt}
use Rattle.mtl.specs.declared.row.Row.{Row}
use Rattle.mtl.specs.declared.ruling.Claim.{Claim}
use Rattle.mtl.specs.declared.ruling.Ruling.{Ruling}
use Rattle.mtl.specs.declared.ruling.Settled.{Settled}
use Rattle.mtl.specs.Questions.{Question, first_no, answer}
use Rattle.mtl.specs.Lines.{Rules}
use Rattle.mtl.specs.Claims.{claim}
use Rattle.mtl.specs.Checking.{Verdict, accepted, refused, check_answer}
use Rattle.mtl.specs.Settling.{Lengths, settle_answer, settle_writes}
use Rattle.logs.specs.Answers.{add_answer, grown}

-- the table's lines, the log's room rule and rows, and what the book shows for each line and row: a ruling, or none where the line is open
pub record State : Type 0 where
  pub table : Rules
  pub room : List Row → Row → Bool
  pub rows : List Row
  pub book : ℕ → ℕ → Option Ruling

abbrev pub state : Rules → (List Row → Row → Bool) → List Row → (ℕ → ℕ → Option Ruling) → State
state T m R b = record { table = T; room = m; rows = R; book = b }

-- a call with what it was handed, what it answered and what it wrote; refused calls are events too
pub data Event : Type 0 where
  Added : Row → Result (Unit {0}) ℕ → Event
  Presented : List ℕ → ℕ → Verdict → Event
  Ruled : ℕ → ℕ → Lengths → Result Settled ℕ → List ℕ → Event
  Looked : ℕ → ℕ → Result (Option Ruling) ℕ → Event

-- the ruling that a call gives: an accepted Present's claim, an accepted Settle's line, row and ruling
abbrev pub rules : Event → Option Claim
rules (Added x a) = None
rules (Presented cert stack (accepted c)) = Some c
rules (Presented cert stack (refused q m)) = None
rules (Ruled n i ls (Ok s) out) = Some (claim n i s.ruling)
rules (Ruled n i ls (Err q) out) = None
rules (Looked n i a) = None

-- Show's answer; e is what the book shows
abbrev pub show_questions : Rules → List Row → ℕ → ℕ → List Question
show_questions T R n i = (21, nat_lt n (length T)) ∷ (22, nat_lt i (length R)) ∷ []

abbrev pub show_answer : Rules → List Row → ℕ → ℕ → Option Ruling → Result (Option Ruling) ℕ
show_answer T R n i e = answer (first_no (show_questions T R n i)) e

-- the answer is the one defined for the table and the rows held
abbrev pub Answers : State → Event → Type 0
Answers s (Added x a) = a ≡ add_answer s.rows x (s.room s.rows x)
Answers s (Presented cert stack a) = a ≡ check_answer s.table s.rows cert stack
Answers s (Ruled n i ls a out) = (a ≡ settle_answer s.table s.rows n i ls) × (out ≡ settle_writes s.table s.rows n i a)
Answers s (Looked n i a) = a ≡ show_answer s.table s.rows n i (s.book n i)

-- an accepted Add's row stands at the end, and no call changes the rows otherwise
abbrev pub rows_after : List Row → Event → List Row
rows_after R (Added x a) = grown R x a
rows_after R (Presented cert stack a) = R
rows_after R (Ruled n i ls a out) = R
rows_after R (Looked n i a) = R

-- a ruling sets its own entry and no other
abbrev pub entered : Option Claim → (ℕ → ℕ → Option Ruling) → ℕ → ℕ → Option Ruling
entered None book n i = book n i
entered (Some c) book n i = cond (c.line == n && c.row == i) (Some c.ruling) (book n i)

-- one call
pub record Step (s : State) (e : Event) (t : State) : Type 0 where
  pub answers : Answers s e
  pub same_table : t.table ≡ s.table
  pub same_room : (R : List Row) (x : Row) → t.room R x ≡ s.room R x
  pub rows : t.rows ≡ rows_after s.rows e
  pub book : (n i : ℕ) → t.book n i ≡ entered (rules e) s.book n i

-- any number of calls in any order
pub data Run : State → List Event → State → Type 0 where
  done : {s : State} → Run s [] s
  then : {s t u : State} {e : Event} {es : List Event} → Step s e t → Run t es u → Run s (e ∷ es) u
