use Rattle.std.proofs.Common.{◌+◌, ◌-◌, ◌*◌, true, leb, ap, ◌∙◌, ap₂, arith}
use Rattle.mtl.specs.Cells.{add_cell}
use Rattle.mtl.specs.declared.ruling.Ruling.TheVariants.{Broken as broken}
use Rattle.writer.specs.Choice.{cell_in, merge, offer, add_if, cells_of, sized}
use Rattle.writer.proofs.Offers.{short_since}
use Rattle.writer.proofs.PassSince.{broken_start, late_step, broken_step, broken_end, broken_stop}
use Rattle.writer.proofs.Sized.{sized_none}
use Rattle.writer.proofs.since.since_broken.Goals as goal

pub loop-j-init : goal.loop-j-init
loop-j-init c = let s = broken_start (cell_in c.args.known.sizes.now) c.args.known.spot.rows.all.now c.args.known.spot.row c.args.window c.args.left c.args.right in (s.0, s.1, omega arith)

pub loop-j-preserved : goal.loop-j-preserved
loop-j-preserved c =
    let j = c.loop-j.j - 1 in
    let late = c.plus_if-late.ensures ∙ ap₂ (λ d x. add_if (leb c.args.window.from d) (sized c.loop-j.late) x) c.before-in-loop-j.ensures (c.size.ensures ∙ c.line-rights.ensures j broken) ∙ late_step (cell_in c.args.known.sizes.now) c.args.known.spot.rows.all.now c.args.known.spot.row c.args.window c.args.left c.args.right j c.loop-j.j (sized c.loop-j.late) (omega arith) (omega arith) c.loop-j.invariant.1 in
    let way = c.offered-in-loop-j.ensures ∙ ap (λ s. offer true s (256 * 21 + j)) (c.plus.ensures ∙ ap (add_cell (sized c.plus_if-late.result)) (c.size-in-loop-j.ensures ∙ c.line-lefts.ensures j broken)) in (
      c.better-best.ensures ∙ broken_step (cell_in c.args.known.sizes.now) c.args.known.spot.rows.all.now c.args.known.spot.row c.args.window c.args.left c.args.right (omega arith) j c.loop-j.j (sized c.plus_if-late.result) (cells_of c.loop-j.best) (cells_of c.offered-in-loop-j.result) (omega arith) (omega arith) (omega arith) (c.first_within-start.ensures.after (j - 1) (omega arith) (omega arith)) late c.loop-j.invariant.0 way,
      late,
      omega arith,
    )

pub returns-then-longest-window : goal.returns-then-longest-window
returns-then-longest-window c = c.offered.ensures ∙ short_since (cell_in c.args.known.sizes.now) c.args.known.spot.rows.all.now c.args.known.spot.row c.args.window c.args.left c.args.right (omega arith)

pub returns : goal.returns
returns c =
    let start = c.first_within-start.result in
    let whole = c.plus_if-whole.ensures ∙ ap₂ (λ d x. add_if (leb c.args.window.from d) (sized c.loop-j.late) x) c.before-2.ensures (c.size-2.ensures ∙ c.line-rights.ensures start broken) ∙ late_step (cell_in c.args.known.sizes.now) c.args.known.spot.rows.all.now c.args.known.spot.row c.args.window c.args.left c.args.right start c.loop-j.j (sized c.loop-j.late) (omega arith) c.first_within-start.ensures.low c.loop-j.invariant.1 in
    c.better.ensures ∙ ap (merge (cells_of c.loop-j.best)) c.offered-2.ensures ∙
    broken_end (cell_in c.args.known.sizes.now) c.args.known.spot.rows.all.now c.args.known.spot.row c.args.window c.args.left c.args.right (omega arith) c.args.known.spot.there start c.first_within-start.ensures.after c.loop-j.j (sized c.plus_if-whole.result) (cells_of c.loop-j.best) (omega arith) c.first_within-start.ensures.low c.first_within-start.ensures.before c.loop-j.invariant.0 whole

pub returns-then-is_none : goal.returns-then-is_none
returns-then-is_none c =
    let j = c.loop-j.j - 1 in
    let late = c.plus_if-late.ensures ∙ ap₂ (λ d x. add_if (leb c.args.window.from d) (sized c.loop-j.late) x) c.before-in-loop-j.ensures (c.size.ensures ∙ c.line-rights.ensures j broken) ∙ late_step (cell_in c.args.known.sizes.now) c.args.known.spot.rows.all.now c.args.known.spot.row c.args.window c.args.left c.args.right j c.loop-j.j (sized c.loop-j.late) (omega arith) (omega arith) c.loop-j.invariant.1 in
    broken_stop (cell_in c.args.known.sizes.now) c.args.known.spot.rows.all.now c.args.known.spot.row c.args.window c.args.left c.args.right (omega arith) c.args.known.spot.there c.first_within-start.result c.first_within-start.ensures.after j c.loop-j.j (sized c.plus_if-late.result) (cells_of c.loop-j.best) (omega arith) (omega arith) (omega arith) (omega arith) c.loop-j.invariant.0 late
    (sized_none c.plus_if-late.result _ c.is_none.ensures c.if-is_none.true)
