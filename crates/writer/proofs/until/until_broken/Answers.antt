use Rattle.std.proofs.Common.{◌+◌, ◌*◌, true, leb, ap, ◌∙◌, ap₂, arith}
use Rattle.mtl.specs.Cells.{add_cell}
use Rattle.mtl.specs.declared.ruling.Ruling.TheVariants.{Broken as broken}
use Rattle.writer.specs.Choice.{cell_in, merge, offer, add_if, cells_of, sized}
use Rattle.writer.proofs.PassUntil.{broken_start, late_step, broken_step, broken_end, broken_stop}
use Rattle.writer.proofs.Sized.{sized_none}
use Rattle.writer.proofs.until.until_broken.Goals as goal

pub loop-j-init : goal.loop-j-init
loop-j-init c = broken_start (cell_in c.args.known.sizes.now) c.args.known.spot.rows.all.now c.args.known.spot.row c.args.window c.args.left c.args.right

pub loop-j-preserved : goal.loop-j-preserved
loop-j-preserved c =
    let j = c.loop-j.j in
    let late = c.plus_if-late.ensures ∙ ap₂ (λ d x. add_if (leb c.args.window.from d) (sized c.loop-j.late) x) c.after.ensures (c.size.ensures ∙ c.line-rights.ensures j broken) ∙ late_step (cell_in c.args.known.sizes.now) c.args.known.spot.rows.all.now c.args.known.spot.row c.args.window c.args.left c.args.right j (j + 1) (sized c.loop-j.late) (omega arith) (omega arith) c.loop-j.invariant.1 in
    let way = c.offered.ensures ∙ ap (λ s. offer true s (256 * 25 + j)) (c.plus.ensures ∙ ap (add_cell (sized c.plus_if-late.result)) (c.size-in-loop-j.ensures ∙ c.line-lefts.ensures j broken)) in (
      c.better-best.ensures ∙ broken_step (cell_in c.args.known.sizes.now) c.args.known.spot.rows.all.now c.args.known.spot.row c.args.window c.args.left c.args.right j (j + 1) (sized c.plus_if-late.result) (cells_of c.loop-j.best) (cells_of c.offered.result) (omega arith) (omega arith) (omega arith) (c.end_within-end.ensures.before j (omega arith)) late c.loop-j.invariant.0 way,
      late,
    )

pub returns : goal.returns
returns c =
    c.better.ensures ∙ ap (merge (cells_of c.loop-j.best)) (c.offered-2.ensures ∙ ap (λ b. offer b (sized c.loop-j.late) (256 * 26 + 0)) c.has_closed.ensures) ∙
    broken_end (cell_in c.args.known.sizes.now) c.args.known.spot.rows.all.now c.args.known.spot.row c.args.window c.args.left c.args.right c.end_within-end.result c.end_within-end.ensures.before c.loop-j.j (sized c.loop-j.late) (cells_of c.loop-j.best) (omega (arith, c.loop-j.auto.j-end c.end_within-end.ensures.low)) c.end_within-end.ensures.low c.end_within-end.ensures.high c.end_within-end.ensures.after c.loop-j.invariant.0 c.loop-j.invariant.1

pub returns-then-is_none : goal.returns-then-is_none
returns-then-is_none c =
    let j = c.loop-j.j in
    let late = c.plus_if-late.ensures ∙ ap₂ (λ d x. add_if (leb c.args.window.from d) (sized c.loop-j.late) x) c.after.ensures (c.size.ensures ∙ c.line-rights.ensures j broken) ∙ late_step (cell_in c.args.known.sizes.now) c.args.known.spot.rows.all.now c.args.known.spot.row c.args.window c.args.left c.args.right j (j + 1) (sized c.loop-j.late) (omega arith) (omega arith) c.loop-j.invariant.1 in
    broken_stop (cell_in c.args.known.sizes.now) c.args.known.spot.rows.all.now c.args.known.spot.row c.args.window c.args.left c.args.right c.end_within-end.result c.end_within-end.ensures.before j (j + 1) (sized c.plus_if-late.result) (cells_of c.loop-j.best) (omega arith) (omega arith) (omega arith) c.end_within-end.ensures.high c.loop-j.invariant.0 late
    (sized_none c.plus_if-late.result _ c.is_none.ensures c.if-is_none.true)
