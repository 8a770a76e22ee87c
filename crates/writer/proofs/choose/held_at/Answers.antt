use Rattle.writer.specs.Choice.{cell_in}
use Rattle.writer.proofs.Fixed.{mark_held, not_held, and_held, or_held}
use Rattle.writer.proofs.choose.held_at.Goals as goal

pub returns-in-Mark : goal.returns-in-Mark
returns-in-Mark c = let e = mark_held (cell_in c.args.known.sizes.now) c.args.known.spot.rows.all.now c.args.known.spot.row c.in-Mark.mark in cc

pub returns-in-Not : goal.returns-in-Not
returns-in-Not c = let e = not_held (cell_in c.args.known.sizes.now) c.args.known.spot.rows.all.now c.args.known.spot.row c.in-Not.left in cc

pub returns-in-And : goal.returns-in-And
returns-in-And c = let e = and_held (cell_in c.args.known.sizes.now) c.args.known.spot.rows.all.now c.args.known.spot.row c.in-And.left c.in-And.right in cc

pub returns-in-Or : goal.returns-in-Or
returns-in-Or c = let e = or_held (cell_in c.args.known.sizes.now) c.args.known.spot.rows.all.now c.args.known.spot.row c.in-Or.left c.in-Or.right in cc
