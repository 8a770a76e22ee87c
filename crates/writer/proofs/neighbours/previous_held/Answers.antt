use Rattle.std.proofs.Common.{refl, arith}
use Rattle.writer.specs.Choice.{cell_in}
use Rattle.writer.proofs.Fixed.{previous_held, previous_held_first}
use Rattle.writer.proofs.neighbours.previous_held.Goals as goal

pub returns-in_err-row_before : goal.returns-in_err-row_before
returns-in_err-row_before c =
    let n = c.row_before.ensures.none c.in_err-row_before.was in
    let e = previous_held_first (cell_in c.args.known.sizes.now) c.args.known.spot.rows.all.now c.args.known.spot.row c.args.window c.args.left (omega (arith, n)) in
    cc

pub returns : goal.returns
returns c =
    let b = c.in_ok-row_before.ensures.some _ refl in
    let e = previous_held (cell_in c.args.known.sizes.now) c.args.known.spot.rows.all.now c.args.known.spot.row c.args.window c.args.left (omega (arith, b.0)) in
    cc
