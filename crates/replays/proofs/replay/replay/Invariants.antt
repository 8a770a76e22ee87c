use Rattle.std.proofs.Common.{take, vec_items}
use Rattle.replays.specs.Replays.{MakesAll}
use Rattle.cases.specs.View.{state_of}
use Rattle.replays.proofs.replay.replay.Given as goal

abbrev pub invariant-loop-call : goal.invariant-loop-call
invariant-loop-call g l =
    MakesAll (state_of g.L.Growing.room g.L.Readable.rows l.initial.case) (take l.call-index l.calls) (vec_items l.answers)
    (state_of g.L.Growing.room g.L.Readable.rows l.case)
