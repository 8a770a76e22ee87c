use Rattle.std.proofs.Common.{refl, arith}
use Rattle.writer.specs.Choice.{cell_in}
use Rattle.writer.proofs.Fixed.{previous_broken, previous_broken_first}
use Rattle.writer.proofs.neighbours.previous_broken.Goals as goal

pub returns-in-Some : goal.returns-in-Some
returns-in-Some c =
    let b = c.in-Some.ensures.some _ refl in
    let e = previous_broken (cell_in c.args.known.sizes.now) c.args.known.spot.rows.all.now c.args.known.spot.row c.args.window c.args.left (omega (arith, b.0)) in
    cc

pub returns-in-None : goal.returns-in-None
returns-in-None c =
    let n = c.in-None.ensures.none refl in
    let e = previous_broken_first (cell_in c.args.known.sizes.now) c.args.known.spot.rows.all.now c.args.known.spot.row c.args.window c.args.left (omega (arith, n)) in
    cc
