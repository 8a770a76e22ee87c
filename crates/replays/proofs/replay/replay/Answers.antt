use Rattle.std.proofs.Common.{◌≡◌, [], ◌∷◌, ◌++◌, get_or, take, vec_items, sym, ap, subst, arith}
use Rattle.std.proofs.lemmas.List.{take_more, take_all}
use Rattle.mtl.specs.Tables.{lines_of}
use Rattle.replays.specs.declared.call.Call.{Call}
use Rattle.replays.specs.declared.call.Call.TheVariants.{Add}
use Rattle.cases.specs.Law.{Lawful}
use Rattle.cases.specs.View.{state_of}
use Rattle.replays.specs.Replays.{MakesAll, RecordsAll}
use Rattle.replays.proofs.Replaying.{makes_none, makes_more}
use Rattle.replays.proofs.replay.replay.Goals as goal

abbrev no_call : Call
no_call = Add (record { time = 0; marks = 0 })

pub loop-call-init : goal.loop-call-init
loop-call-init g c =
    let o = state_of g.L.Growing.room g.L.Readable.rows c.open-case.result in
    subst (λ xs. MakesAll o [] xs o) (sym c.new-answers.ensures.items) (makes_none o)

pub loop-call-preserved : goal.loop-call-preserved
loop-call-preserved g c =
    let o = state_of g.L.Growing.room g.L.Readable.rows c.open-case.result in
    let s = state_of g.L.Growing.room g.L.Readable.rows c.loop-call.case in
    let t = state_of g.L.Growing.room g.L.Readable.rows c.make.new.case in
    let cs = c.args.calls.now in
    let k = c.loop-call.call-index in
    let more = makes_more o s t (take k cs) (vec_items c.loop-call.answers) (get_or cs k no_call) c.make.result c.loop-call.invariant c.make.ensures in
    subst (λ xs. MakesAll o xs (vec_items c.push.new.self) t) (sym (take_more cs k no_call c.loop-call-test.true))
    (subst (λ xs. MakesAll o (take k cs ++ get_or cs k no_call ∷ []) xs t) (sym c.in_ok-push.ensures.items) more)

pub returns : goal.returns
returns g c =
    let o = state_of g.L.Growing.room g.L.Readable.rows c.open-case.result in
    let t = state_of g.L.Growing.room g.L.Readable.rows c.loop-call.case in
    let cs = c.args.calls.now in
    let h = c.loop-call.invariant in
    let e = c.open-case.ensures in
    let whole : take c.loop-call.call-index cs ≡ cs = take_all c.loop-call.call-index cs (omega arith) in
    let law : Lawful o.table o.rows h.0 = e.lawful h.0 t h.1 in
    record {
      start = o;
      opened = e.opened;
      table_is = ap lines_of e.table;
      room_is = ap g.L.Growing.room e.log;
      rows_are = ap g.L.Readable.rows e.log;
      ran = (h.0, h.1, subst (λ xs. RecordsAll xs (vec_items c.loop-call.answers) h.0) whole h.2);
      lawful = subst (λ T. Lawful T (g.L.Readable.rows c.args.log) h.0) (ap lines_of e.table)
          (subst (λ R. Lawful o.table R h.0) (ap g.L.Readable.rows e.log) law);
    }
