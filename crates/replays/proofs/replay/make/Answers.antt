use Rattle.std.proofs.Common.{◌≡◌, sym, subst}
use Rattle.replays.specs.declared.call.Call.{Call}
use Rattle.replays.specs.declared.call.Answer.{Answer}
use Rattle.cases.specs.Runs.{Event}
use Rattle.replays.specs.Replays.{Records, of_add, of_present, of_settle, of_show}
use Rattle.replays.proofs.replay.make.Goals as goal

-- the call is the one that the arm names
named : (c d : Call) (a : Answer) (e : Event) → c ≡ d → Records d a e → Records c a e
named c d a e is h = subst (λ x. Records x a e) (sym is) h

pub returns-in-Add : goal.returns-in-Add
returns-in-Add g c = (_, c.add.ensures, named _ _ _ _ c.in-Add.is (of_add _ _))

pub returns-in-Present : goal.returns-in-Present
returns-in-Present g c = (_, c.present.ensures.step, named _ _ _ _ c.in-Present.is (of_present _ _ _))

pub returns-in-Settle : goal.returns-in-Settle
returns-in-Settle g c = (_, c.settle.ensures.step, named _ _ _ _ c.in-Settle.is (of_settle _ _ _ _ _))

pub returns-in-Show : goal.returns-in-Show
returns-in-Show g c = (_, c.show.ensures, named _ _ _ _ c.in-Show.is (of_show _ _ _))
