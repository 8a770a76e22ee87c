use Rattle.std.proofs.Common.{◌+◌, ◌-◌, ◌*◌, leb, ap, ◌∙◌, ap₂, arith}
use Rattle.mtl.specs.Cells.{add_cell}
use Rattle.mtl.specs.declared.ruling.Ruling.TheVariants.{Held as held}
use Rattle.writer.specs.Choice.{cell_in, offer, cells_of, sized}
use Rattle.writer.proofs.PassSince.{held_start, held_step, held_end, held_stop}
use Rattle.writer.proofs.Sized.{sized_none}
use Rattle.writer.proofs.since.since_held.Goals as goal

pub loop-j-init : goal.loop-j-init
loop-j-init c = let s = held_start (cell_in c.args.known.sizes.now) c.args.known.spot.rows.all.now c.args.known.spot.row c.args.window c.args.left c.args.right in (s.0, s.1, omega arith)

pub loop-j-preserved : goal.loop-j-preserved
loop-j-preserved c =
    let j = c.loop-j.j - 1 in
    let way = c.offered.ensures ∙ ap₂ (λ d s. offer (leb c.args.window.from d) s (256 * 20 + j)) c.before-in-loop-j.ensures (c.plus.ensures ∙ ap (add_cell (sized c.loop-j.sum)) (c.size.ensures ∙ c.line-rights.ensures j held)) in
    let s = held_step (cell_in c.args.known.sizes.now) c.args.known.spot.rows.all.now c.args.known.spot.row c.args.window c.args.left c.args.right j c.loop-j.j (sized c.loop-j.sum) (cells_of c.loop-j.best) (cells_of c.offered.result) (omega arith) (omega arith) c.loop-j.invariant.0 c.loop-j.invariant.1 (c.first_within-start.ensures.after j (omega arith) (omega arith)) way in
    (c.better-best.ensures ∙ s.0, c.plus-sum.ensures ∙ ap (add_cell (sized c.loop-j.sum)) (c.size-in-loop-j.ensures ∙ c.line-lefts.ensures j held) ∙ s.1, omega arith)

pub returns-after-loop-j : goal.returns-after-loop-j
returns-after-loop-j c = held_end (cell_in c.args.known.sizes.now) c.args.known.spot.rows.all.now c.args.known.spot.row c.args.window c.args.left c.args.right c.first_within-start.result c.loop-j.j (cells_of c.loop-j.best) (omega arith) (omega arith) c.first_within-start.ensures.before c.loop-j.invariant.0

pub returns-then-is_none : goal.returns-then-is_none
returns-then-is_none c =
    held_stop (cell_in c.args.known.sizes.now) c.args.known.spot.rows.all.now c.args.known.spot.row c.args.window c.args.left c.args.right c.loop-j.j (sized c.loop-j.sum) (cells_of c.loop-j.best) (omega arith) c.loop-j.invariant.0 c.loop-j.invariant.1
    (sized_none c.loop-j.sum _ c.is_none.ensures c.if-is_none.true)
