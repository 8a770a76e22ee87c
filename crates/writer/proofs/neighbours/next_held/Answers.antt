use Rattle.std.proofs.Common.{refl, arith}
use Rattle.writer.specs.Choice.{cell_in}
use Rattle.writer.proofs.Fixed.{next_held, next_held_last}
use Rattle.writer.proofs.neighbours.next_held.Goals as goal

pub returns-in_err-row_after : goal.returns-in_err-row_after
returns-in_err-row_after c =
    let n = c.row_after.ensures.none c.in_err-row_after.was in
    let e = next_held_last (cell_in c.args.known.sizes.now) c.args.known.spot.rows.all.now c.args.known.spot.row c.args.window c.args.left (omega (arith, n)) in
    cc

pub returns : goal.returns
returns c =
    let b = c.in_ok-row_after.ensures.some _ refl in
    let e = next_held (cell_in c.args.known.sizes.now) c.args.known.spot.rows.all.now c.args.known.spot.row c.args.window c.args.left (omega (arith, b.0)) in
    cc
