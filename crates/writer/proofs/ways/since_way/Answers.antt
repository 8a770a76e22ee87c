use Rattle.std.proofs.Common.{arith}
use Rattle.writer.proofs.Ranging.{by_21, by_22, by_23}
use Rattle.writer.specs.Choice.{code_of}
use Rattle.writer.proofs.Making.{led}
use Rattle.writer.proofs.Taking.{rule_in, row_in}
use Rattle.writer.proofs.ways.since_way.Goals as goal

pub returns-in-21 : goal.returns-in-21
returns-in-21 c = by_21 c.by_two.result (code_of c.args.pick) _ _ (rule_in c.args.pick (omega arith)) (row_in c.args.pick (omega arith)) c.args.spot.rows.all.now c.args.spot.row c.args.window c.args.left c.args.right c.first_near-near.result c.first_near-near.ensures.high c.first_near-near.ensures.before c.first_near-near.ensures.after (led c.by_two.ensures c.at.ensures) c.in-21.is

pub returns-in-22 : goal.returns-in-22
returns-in-22 c = by_22 c.by.result (code_of c.args.pick) _ _ (rule_in c.args.pick (omega arith)) (row_in c.args.pick (omega arith)) c.args.spot.rows.all.now c.args.spot.row c.args.window c.args.left c.args.right c.first_near-near.result c.first_near-near.ensures.high c.first_near-near.ensures.before c.first_near-near.ensures.after c.first_within.result c.first_within.ensures.low c.first_within.ensures.before c.first_within.ensures.after c.args.spot.there c.by.ensures c.in-22.is

pub returns-in_default : goal.returns-in_default
returns-in_default c = by_23 c.leaf.result (code_of c.args.pick) _ _ (rule_in c.args.pick (omega arith)) (row_in c.args.pick (omega arith)) c.args.spot.rows.all.now c.args.spot.row c.args.window c.args.left c.args.right c.leaf.ensures (λ e. omega arith) (λ e. omega arith)
