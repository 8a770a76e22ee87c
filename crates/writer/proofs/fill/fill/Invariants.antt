use Rattle.std.proofs.Common.{◌≡◌, ◌+◌, ◌*◌}
use Rattle.writer.specs.Tables.{filled, size_at, code_at}
use Rattle.mtl.specs.Tables.{lines_of}
use Rattle.writer.proofs.fill.fill.Given as goal

abbrev pub invariant-loop-number : goal.invariant-loop-number
invariant-loop-number l =
    (l.sizes ≡ filled (size_at (lines_of l.table) l.rows.all.now) (256 * l.number) l.initial.sizes) ×
    (l.plan ≡ filled (code_at (lines_of l.table) l.rows.all.now) (256 * l.number) l.initial.plan)

abbrev pub invariant-loop-row : goal.invariant-loop-row
invariant-loop-row l =
    (l.sizes ≡ filled (size_at (lines_of l.table) l.rows.all.now) (256 * l.number + 2 * l.row) l.initial.sizes) ×
    (l.plan ≡ filled (code_at (lines_of l.table) l.rows.all.now) (256 * l.number + 2 * l.row) l.initial.plan)
