use Rattle.std.proofs.Common.{◌≡◌, ◌≤◌, length, take}
use Rattle.writer.proofs.log_rows.rows_of.Given as goal

abbrev pub invariant-loop-number : goal.invariant-loop-number
invariant-loop-number g l =
    (l.number ≤ length (g.L.Readable.rows l.log)) × (l.rows.items ≡ take l.number (g.L.Readable.rows l.log))
