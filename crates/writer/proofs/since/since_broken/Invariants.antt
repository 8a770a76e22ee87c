use Rattle.std.proofs.Common.{◌≡◌, ◌+◌, ◌≤◌}
use Rattle.writer.specs.Choice.{cell_in, cells_of, sized}
use Rattle.writer.proofs.PassSince.{broken_ways, late_sum}
use Rattle.writer.proofs.since.since_broken.Given as goal

abbrev pub invariant-loop-j : goal.invariant-loop-j
invariant-loop-j l =
    (cells_of l.best ≡ broken_ways (cell_in l.known.sizes.now) l.known.spot.rows.all.now l.known.spot.row l.window l.left l.right l.j) ×
    (sized l.late ≡ late_sum (cell_in l.known.sizes.now) l.known.spot.rows.all.now l.known.spot.row l.window l.left l.right l.j) ×
    (l.start + 1 ≤ l.j)
