use Rattle.std.proofs.Common.{◌≡◌}
use Rattle.writer.specs.Choice.{cell_in, cells_of, sized}
use Rattle.writer.proofs.PassUntil.{held_ways, held_sum}
use Rattle.writer.proofs.until.until_held.Given as goal

abbrev pub invariant-loop-j : goal.invariant-loop-j
invariant-loop-j l =
    (cells_of l.best ≡ held_ways (cell_in l.known.sizes.now) l.known.spot.rows.all.now l.known.spot.row l.window l.left l.right l.j) ×
    (sized l.sum ≡ held_sum (cell_in l.known.sizes.now) l.known.spot.rows.all.now l.known.spot.row l.window l.left l.right l.j)
