use Rattle.std.proofs.Common.{arith}
use Rattle.writer.proofs.Ranging.{by_25, by_26}
use Rattle.writer.specs.Choice.{code_of}
use Rattle.writer.proofs.Making.{led}
use Rattle.writer.proofs.Taking.{rule_in, row_in}
use Rattle.writer.proofs.ways.until_way.Goals as goal

pub returns-in-25 : goal.returns-in-25
returns-in-25 c = by_25 c.by_two.result (code_of c.args.pick) _ _ (rule_in c.args.pick (omega arith)) (row_in c.args.pick (omega arith)) c.args.spot.rows.all.now c.args.spot.row c.args.window c.args.left c.args.right c.first_far-far.result c.first_far-far.ensures.low c.first_far-far.ensures.before c.first_far-far.ensures.after (led c.by_two.ensures c.at.ensures) c.in-25.is

pub returns-in_default : goal.returns-in_default
returns-in_default c = by_26 c.by.result (code_of c.args.pick) _ _ (rule_in c.args.pick (omega arith)) (row_in c.args.pick (omega arith)) c.args.spot.rows.all.now c.args.spot.row c.args.window c.args.left c.args.right c.first_far-far.result c.first_far-far.ensures.low c.first_far-far.ensures.before c.first_far-far.ensures.after c.end_within.result c.end_within.ensures.low c.end_within.ensures.high c.end_within.ensures.before c.end_within.ensures.after c.by.ensures (λ e. omega arith)
