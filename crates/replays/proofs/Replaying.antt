-- One call more.
use Rattle.std.proofs.Common.{List, [], ◌∷◌, ◌++◌}
use Rattle.replays.specs.declared.call.Call.{Call}
use Rattle.replays.specs.declared.call.Answer.{Answer}
use Rattle.cases.specs.Runs.{State, Event, Step, Run, done, then}
use Rattle.replays.specs.Replays.{Records, RecordsAll, of_none, of_more, Makes, MakesAll}

run_more : {s t u : State} {es : List Event} {e : Event} → Run s es t → Step t e u → Run s (es ++ (e ∷ [])) u
run_more done st = then st done
run_more (then h r) st = then h (run_more r st)

records_more :
    {cs : List Call} {answers : List Answer} {es : List Event} {c : Call} {a : Answer} {e : Event} → RecordsAll cs answers es → Records c a e →
    RecordsAll (cs ++ (c ∷ [])) (answers ++ (a ∷ [])) (es ++ (e ∷ []))
records_more of_none h = of_more h of_none
records_more (of_more g r) h = of_more g (records_more r h)

pub makes_none : (o : State) → MakesAll o [] [] o
makes_none o = ([], done, of_none)

pub makes_more :
    (o s t : State) (cs : List Call) (answers : List Answer) (c : Call) (a : Answer) → MakesAll o cs answers s → Makes s c a t →
    MakesAll o (cs ++ (c ∷ [])) (answers ++ (a ∷ [])) t
makes_more o s t cs answers c a h m = (h.0 ++ (m.0 ∷ []), run_more h.1 m.1, records_more h.2 m.2)
