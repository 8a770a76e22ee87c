use Rattle.std.proofs.Common.{◌+◌, ◌-◌, take, sym, refl, ◌∙◌, subst, arith}
use Rattle.mtl.specs.Claims.{Held, Broken}
use Rattle.mtl.specs.Tables.{lines_of}
use Rattle.mtl.specs.declared.ruling.Ruling.TheVariants.{Held as held, Broken as broken}
use Rattle.writer.specs.Ways.{kids_of}
use Rattle.writer.specs.Written.{Wrote, all_bytes}
use Rattle.writer.proofs.Joined.{all_none}
use Rattle.writer.proofs.Making.{run_at, before, kid_at, before_next, all_kids}
use Rattle.writer.proofs.Puts.{wrote_none}
use Rattle.writer.proofs.Stepping.{no_not}
use Rattle.writer.proofs.Turns.{there, taken, not_held, not_broken, not_next, not_room, not_put, not_wrote, next_kid, next_room, next_wrote, last_room, last_wrote}
use Rattle.writer.proofs.write.+write_broken_write_held.Goals as goal

pub write_held-write_broken-end-requires : goal.write_held-write_broken-end-requires
write_held-write_broken-end-requires t c =
    let only = not_held c.args.plan c.args.line c.args.row c.in-Not.left c.line_at-found.result c.line_at-found.ensures c.in-Not.is in
    let n = not_next c.args.plan (Held c.args.line c.args.row) c.requires.short 3 (Broken c.in-Not.left c.args.row) only in
    (omega (arith, n.1, c.decreases), (n.0, not_room c.args.plan (Held c.args.line c.args.row) c.requires.short 3 (Broken c.in-Not.left c.args.row) only c.args.out.now c.args.at c.requires.room))

pub write_held-node_of-requires : goal.write_held-node_of-requires
write_held-node_of-requires t c = (omega (arith, (there c.args.plan (Held c.args.line c.args.row) c.requires.short).1), omega arith)

pub write_held-put_node-requires : goal.write_held-put_node-requires
write_held-put_node-requires t c =
    let only = not_held c.args.plan c.args.line c.args.row c.in-Not.left c.line_at-found.result c.line_at-found.ensures c.in-Not.is in
    not_put c.args.plan (Held c.args.line c.args.row) c.requires.short 3 (Broken c.in-Not.left c.args.row) only c.args.out.now c.args.at c.requires.room _ _ c.write_broken-end.ensures

pub write_held-returns-in-Not : goal.write_held-returns-in-Not
write_held-returns-in-Not t c =
    let only = not_held c.args.plan c.args.line c.args.row c.in-Not.left c.line_at-found.result c.line_at-found.ensures c.in-Not.is in
    not_wrote c.args.plan (Held c.args.line c.args.row) c.requires.short 3 (Broken c.in-Not.left c.args.row) only c.args.out.now c.args.at c.requires.room _ _ _ _ c.write_broken-end.ensures (rw c.node_of.ensures at c.put_node.ensures)

pub write_held-invariant_of-spot : goal.write_held-invariant_of-spot
write_held-invariant_of-spot t c = record { there = (there c.args.plan (Held c.args.line c.args.row) c.requires.short).0 }

pub write_held-loop-run-init : goal.write_held-loop-run-init
write_held-loop-run-init t c = subst (Wrote _ _ _ _) (sym (all_none (lines_of c.args.plan.table.now) c.args.plan.rows.all.now)) (wrote_none _ _)

pub write_held-write_held-end-requires : goal.write_held-write_held-end-requires
write_held-write_held-end-requires t c =
    let way = c.held_way-way.result in
    let i = c.loop-run.run-index in
    let j = c.loop-j.j in
    let takes = taken c.args.plan.rows.all.now c.args.row held way _ _ _ _ (c.from.ensures ∙ c.cell.ensures) c.line_at-found.ensures (c.held_way-way.ensures (no_not _ c.in_default.not-Not)) in
    let k = kid_at c.run-item.result held way i j c.loop-run-test.true c.loop-j.auto.j c.loop-j-test.true in
    let next = next_kid c.args.plan (Held c.args.line c.args.row) c.requires.short way takes (before way i + (j - (run_at c.run-item.result way i).from)) (Held (run_at c.run-item.result way i).line j) k.0 k.1 in
    (omega (arith, next.1, c.decreases), (next.0, next_room c.args.plan (Held c.args.line c.args.row) c.requires.short way takes c.args.out.now c.loop-j.out c.args.at c.loop-j.end (before way i + (j - (run_at c.run-item.result way i).from)) c.requires.room c.loop-j.invariant.1 (Held (run_at c.run-item.result way i).line j) k.0 k.1))

pub write_held-loop-j-preserved : goal.write_held-loop-j-preserved
write_held-loop-j-preserved t c =
    let way = c.held_way-way.result in
    let i = c.loop-run.run-index in
    let j = c.loop-j.j in
    let takes = taken c.args.plan.rows.all.now c.args.row held way _ _ _ _ (c.from.ensures ∙ c.cell.ensures) c.line_at-found.ensures (c.held_way-way.ensures (no_not _ c.in_default.not-Not)) in
    let k = kid_at c.run-item.result held way i j c.loop-run-test.true c.loop-j.auto.j c.loop-j-test.true in
    (λ h. absurd (omega (arith, c.loop-j-test.true, c.loop-j.auto.j)), next_wrote c.args.plan (Held c.args.line c.args.row) c.requires.short way takes c.args.out.now c.loop-j.out c.args.at c.loop-j.end (before way i + (j - (run_at c.run-item.result way i).from)) c.requires.room c.loop-j.invariant.1 (Held (run_at c.run-item.result way i).line j) k.0 k.1 _ (omega (arith, c.loop-j.auto.j)) _ _ c.write_held-end.ensures)

pub write_held-loop-run-preserved : goal.write_held-loop-run-preserved
write_held-loop-run-preserved t c =
    let way = c.held_way-way.result in
    let i = c.loop-run.run-index in
    subst (λ n. Wrote c.args.out.now c.loop-j.out c.args.at c.loop-j.end (all_bytes (lines_of c.args.plan.table.now) c.args.plan.rows.all.now (take n (kids_of held way))))
    (before_next c.run-item.result way i (i + 1) c.loop-j.j refl c.loop-run-test.true c.loop-j.auto.j c.loop-j-test.false c.loop-j.auto.j-end c.loop-j.invariant.0) c.loop-j.invariant.1

pub write_held-node_of-requires-2 : goal.write_held-node_of-requires-2
write_held-node_of-requires-2 t c = (omega (arith, (there c.args.plan (Held c.args.line c.args.row) c.requires.short).1), omega (arith, c.count.ensures.small))

pub write_held-put_node-requires-2 : goal.write_held-put_node-requires-2
write_held-put_node-requires-2 t c =
    let way = c.held_way-way.result in
    let takes = taken c.args.plan.rows.all.now c.args.row held way _ _ _ _ (c.from.ensures ∙ c.cell.ensures) c.line_at-found.ensures (c.held_way-way.ensures (no_not _ c.in_default.not-Not)) in
    last_room c.args.plan (Held c.args.line c.args.row) c.requires.short way takes c.args.out.now c.loop-run.out c.args.at c.loop-run.end (before way c.loop-run.run-index) c.requires.room c.loop-run.invariant (all_kids held way c.loop-run.run-index c.loop-run-test.false)

pub write_held-returns : goal.write_held-returns
write_held-returns t c =
    let way = c.held_way-way.result in
    let takes = taken c.args.plan.rows.all.now c.args.row held way _ _ _ _ (c.from.ensures ∙ c.cell.ensures) c.line_at-found.ensures (c.held_way-way.ensures (no_not _ c.in_default.not-Not)) in
    last_wrote c.args.plan (Held c.args.line c.args.row) c.requires.short way takes c.args.out.now c.loop-run.out c.args.at c.loop-run.end (before way c.loop-run.run-index) c.requires.room c.loop-run.invariant (all_kids held way c.loop-run.run-index c.loop-run-test.false) _ _ _ (c.count.ensures.size held) (rw c.node_of-2.ensures at c.put_node-2.ensures)

pub write_broken-write_held-end-requires : goal.write_broken-write_held-end-requires
write_broken-write_held-end-requires t c =
    let only = not_broken c.args.plan c.args.line c.args.row c.in-Not.left c.line_at-found.result c.line_at-found.ensures c.in-Not.is in
    let n = not_next c.args.plan (Broken c.args.line c.args.row) c.requires.short 4 (Held c.in-Not.left c.args.row) only in
    (omega (arith, n.1, c.decreases), (n.0, not_room c.args.plan (Broken c.args.line c.args.row) c.requires.short 4 (Held c.in-Not.left c.args.row) only c.args.out.now c.args.at c.requires.room))

pub write_broken-node_of-requires : goal.write_broken-node_of-requires
write_broken-node_of-requires t c = (omega (arith, (there c.args.plan (Broken c.args.line c.args.row) c.requires.short).1), omega arith)

pub write_broken-put_node-requires : goal.write_broken-put_node-requires
write_broken-put_node-requires t c =
    let only = not_broken c.args.plan c.args.line c.args.row c.in-Not.left c.line_at-found.result c.line_at-found.ensures c.in-Not.is in
    not_put c.args.plan (Broken c.args.line c.args.row) c.requires.short 4 (Held c.in-Not.left c.args.row) only c.args.out.now c.args.at c.requires.room _ _ c.write_held-end.ensures

pub write_broken-returns-in-Not : goal.write_broken-returns-in-Not
write_broken-returns-in-Not t c =
    let only = not_broken c.args.plan c.args.line c.args.row c.in-Not.left c.line_at-found.result c.line_at-found.ensures c.in-Not.is in
    not_wrote c.args.plan (Broken c.args.line c.args.row) c.requires.short 4 (Held c.in-Not.left c.args.row) only c.args.out.now c.args.at c.requires.room _ _ _ _ c.write_held-end.ensures (rw c.node_of.ensures at c.put_node.ensures)

pub write_broken-invariant_of-spot : goal.write_broken-invariant_of-spot
write_broken-invariant_of-spot t c = record { there = (there c.args.plan (Broken c.args.line c.args.row) c.requires.short).0 }

pub write_broken-loop-run-init : goal.write_broken-loop-run-init
write_broken-loop-run-init t c = subst (Wrote _ _ _ _) (sym (all_none (lines_of c.args.plan.table.now) c.args.plan.rows.all.now)) (wrote_none _ _)

pub write_broken-write_broken-end-requires : goal.write_broken-write_broken-end-requires
write_broken-write_broken-end-requires t c =
    let way = c.broken_way-way.result in
    let i = c.loop-run.run-index in
    let j = c.loop-j.j in
    let takes = taken c.args.plan.rows.all.now c.args.row broken way _ _ _ _ (c.from.ensures ∙ c.cell.ensures) c.line_at-found.ensures (c.broken_way-way.ensures (no_not _ c.in_default.not-Not)) in
    let k = kid_at c.run-item.result broken way i j c.loop-run-test.true c.loop-j.auto.j c.loop-j-test.true in
    let next = next_kid c.args.plan (Broken c.args.line c.args.row) c.requires.short way takes (before way i + (j - (run_at c.run-item.result way i).from)) (Broken (run_at c.run-item.result way i).line j) k.0 k.1 in
    (omega (arith, next.1, c.decreases), (next.0, next_room c.args.plan (Broken c.args.line c.args.row) c.requires.short way takes c.args.out.now c.loop-j.out c.args.at c.loop-j.end (before way i + (j - (run_at c.run-item.result way i).from)) c.requires.room c.loop-j.invariant.1 (Broken (run_at c.run-item.result way i).line j) k.0 k.1))

pub write_broken-loop-j-preserved : goal.write_broken-loop-j-preserved
write_broken-loop-j-preserved t c =
    let way = c.broken_way-way.result in
    let i = c.loop-run.run-index in
    let j = c.loop-j.j in
    let takes = taken c.args.plan.rows.all.now c.args.row broken way _ _ _ _ (c.from.ensures ∙ c.cell.ensures) c.line_at-found.ensures (c.broken_way-way.ensures (no_not _ c.in_default.not-Not)) in
    let k = kid_at c.run-item.result broken way i j c.loop-run-test.true c.loop-j.auto.j c.loop-j-test.true in
    (λ h. absurd (omega (arith, c.loop-j-test.true, c.loop-j.auto.j)), next_wrote c.args.plan (Broken c.args.line c.args.row) c.requires.short way takes c.args.out.now c.loop-j.out c.args.at c.loop-j.end (before way i + (j - (run_at c.run-item.result way i).from)) c.requires.room c.loop-j.invariant.1 (Broken (run_at c.run-item.result way i).line j) k.0 k.1 _ (omega (arith, c.loop-j.auto.j)) _ _ c.write_broken-end.ensures)

pub write_broken-loop-run-preserved : goal.write_broken-loop-run-preserved
write_broken-loop-run-preserved t c =
    let way = c.broken_way-way.result in
    let i = c.loop-run.run-index in
    subst (λ n. Wrote c.args.out.now c.loop-j.out c.args.at c.loop-j.end (all_bytes (lines_of c.args.plan.table.now) c.args.plan.rows.all.now (take n (kids_of broken way))))
    (before_next c.run-item.result way i (i + 1) c.loop-j.j refl c.loop-run-test.true c.loop-j.auto.j c.loop-j-test.false c.loop-j.auto.j-end c.loop-j.invariant.0) c.loop-j.invariant.1

pub write_broken-node_of-requires-2 : goal.write_broken-node_of-requires-2
write_broken-node_of-requires-2 t c = (omega (arith, (there c.args.plan (Broken c.args.line c.args.row) c.requires.short).1), omega (arith, c.count.ensures.small))

pub write_broken-put_node-requires-2 : goal.write_broken-put_node-requires-2
write_broken-put_node-requires-2 t c =
    let way = c.broken_way-way.result in
    let takes = taken c.args.plan.rows.all.now c.args.row broken way _ _ _ _ (c.from.ensures ∙ c.cell.ensures) c.line_at-found.ensures (c.broken_way-way.ensures (no_not _ c.in_default.not-Not)) in
    last_room c.args.plan (Broken c.args.line c.args.row) c.requires.short way takes c.args.out.now c.loop-run.out c.args.at c.loop-run.end (before way c.loop-run.run-index) c.requires.room c.loop-run.invariant (all_kids broken way c.loop-run.run-index c.loop-run-test.false)

pub write_broken-returns : goal.write_broken-returns
write_broken-returns t c =
    let way = c.broken_way-way.result in
    let takes = taken c.args.plan.rows.all.now c.args.row broken way _ _ _ _ (c.from.ensures ∙ c.cell.ensures) c.line_at-found.ensures (c.broken_way-way.ensures (no_not _ c.in_default.not-Not)) in
    last_wrote c.args.plan (Broken c.args.line c.args.row) c.requires.short way takes c.args.out.now c.loop-run.out c.args.at c.loop-run.end (before way c.loop-run.run-index) c.requires.room c.loop-run.invariant (all_kids broken way c.loop-run.run-index c.loop-run-test.false) _ _ _ (c.count.ensures.size broken) (rw c.node_of-2.ensures at c.put_node-2.ensures)
