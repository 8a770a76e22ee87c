-- Calls and answers of the code as events of a run.
use Rattle.std.specs.Prelude.{◌≡◌, ℕ, Bool, List, [], ◌∷◌, Option, Result}
use Rattle.mtl.specs.declared.row.Row.{Row}
use Rattle.mtl.specs.declared.ruling.Claim.{Claim}
use Rattle.mtl.specs.declared.ruling.Ruling.{Ruling}
use Rattle.mtl.specs.declared.ruling.Settled.{Settled}
use Rattle.mtl.specs.Lines.{Rules}
use Rattle.mtl.specs.Settling.{Lengths}
use Rattle.logs.specs.declared.fault.AddFault.{AddFault}
use Rattle.logs.specs.Answers.{add_told}
use Rattle.checker.specs.declared.fault.CheckFault.{CheckFault}
use Rattle.checker.specs.Told.{told as check_told}
use Rattle.writer.specs.declared.fault.SettleFault.{SettleFault}
use Rattle.writer.specs.Told.{told as settle_told}
use Rattle.cases.specs.declared.case.ShowFault.{ShowFault}
use Rattle.replays.specs.declared.call.Call.{Call}
use Rattle.replays.specs.declared.call.Call.TheVariants.{Add, Present, Settle, Show}
use Rattle.replays.specs.declared.call.Answer.{Answer}
use Rattle.replays.specs.declared.call.Answer.TheVariants.{Added as added, Presented as presented, Settled as settled, Shown as shown}
use Rattle.cases.specs.Runs.{State, Event, Added, Presented, Ruled, Looked, Step, Run}
use Rattle.cases.specs.Law.{Opened, Lawful}
use Rattle.cases.specs.View.{show_told}

-- the event is this call with this answer, whatever the length of the buffers lent
pub data Records : Call → Answer → Event → Type 0 where
  of_add : (x : Row) (a : Result (Unit {0}) AddFault) → Records (Add x) (added a) (Added x (add_told a))
  of_present :
      (cert : _) (stack : ℕ) (a : Result Claim CheckFault) → Records (Present cert) (presented a) (Presented cert.now stack (check_told a))
  of_settle :
      (n i : ℕ) (ls : Lengths) (out : List ℕ) (a : Result Settled SettleFault) → Records (Settle n i) (settled a) (Ruled n i ls (settle_told a) out)
  of_show : (n i : ℕ) (a : Result (Option Ruling) ShowFault) → Records (Show n i) (shown a) (Looked n i (show_told a))

-- call by call and answer by answer
pub data RecordsAll : List Call → List Answer → List Event → Type 0 where
  of_none : RecordsAll [] [] []
  of_more :
      {c : Call} {a : Answer} {e : Event} {cs : List Call} {answers : List Answer} {es : List Event} → Records c a e → RecordsAll cs answers es →
      RecordsAll (c ∷ cs) (a ∷ answers) (e ∷ es)

-- the call, made in state s, gave this answer and left state t
abbrev pub Makes : State → Call → Answer → State → Type 0
Makes s c a t = (e : Event) × Step s e t × Records c a e

-- the calls, made from state o on, gave these answers and left state t
abbrev pub MakesAll : State → List Call → List Answer → State → Type 0
MakesAll o cs answers t = (es : List Event) × Run o es t × RecordsAll cs answers es

-- on a case opened with the table T and with a log of this room rule and these rows R, the calls were made one after another and gave these
-- answers: what happened is a run from the opened case, and keeps the law
pub record Replayed (T : Rules) (room : List Row → Row → Bool) (R : List Row) (cs : List Call) (answers : List Answer) (t : State) : Type 0 where
  pub start : State
  pub opened : Opened start
  pub table_is : start.table ≡ T
  pub room_is : start.room ≡ room
  pub rows_are : start.rows ≡ R
  pub ran : MakesAll start cs answers t
  pub lawful : Lawful T R ran.0
