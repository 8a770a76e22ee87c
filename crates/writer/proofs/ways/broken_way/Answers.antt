use Rattle.std.proofs.Common.{arith}
use Rattle.writer.proofs.Taking.{mark_broken, and_left, and_right, or_broken, previous_one, previous_leaf, next_one, next_leaf}
use Rattle.writer.specs.Choice.{code_of}
use Rattle.writer.proofs.Making.{alone, both}
use Rattle.writer.proofs.Taking.{rule_in, row_in}
use Rattle.writer.proofs.ways.broken_way.Goals as goal

pub returns-in-Mark : goal.returns-in-Mark
returns-in-Mark c = λ _. rw c.in-Mark.is (mark_broken c.leaf.result (code_of c.args.pick) _ _ (rule_in c.args.pick (omega arith)) (row_in c.args.pick (omega arith)) c.args.spot.rows.all.now c.args.spot.row c.in-Mark.field-0 c.leaf.ensures)

pub returns-in-6 : goal.returns-in-6
returns-in-6 c = λ _. rw c.in-And.is (and_left c.by-in-6.result (code_of c.args.pick) _ _ (rule_in c.args.pick (omega arith)) (row_in c.args.pick (omega arith)) c.args.spot.rows.all.now c.args.spot.row c.in-And.left c.in-And.right (alone c.by-in-6.ensures c.at-in-6.ensures) c.in-6.is)

pub returns-in_default : goal.returns-in_default
returns-in_default c = λ _. rw c.in-And.is (and_right c.by-in_default.result (code_of c.args.pick) _ _ (rule_in c.args.pick (omega arith)) (row_in c.args.pick (omega arith)) c.args.spot.rows.all.now c.args.spot.row c.in-And.left c.in-And.right (alone c.by-in_default.ensures c.at-in_default.ensures) (λ e. omega arith))

pub returns-in-Or : goal.returns-in-Or
returns-in-Or c = λ _. rw c.in-Or.is (or_broken c.by_two.result (code_of c.args.pick) _ _ (rule_in c.args.pick (omega arith)) (row_in c.args.pick (omega arith)) c.args.spot.rows.all.now c.args.spot.row c.in-Or.left c.in-Or.right (both c.by_two.ensures c.at-in-Or.ensures c.at-in-Or-2.ensures))

pub returns-in-12 : goal.returns-in-12
returns-in-12 c = λ _. rw c.in-Previous.is (previous_one c.by-in-12.result (code_of c.args.pick) _ _ (rule_in c.args.pick (omega arith)) (row_in c.args.pick (omega arith)) c.args.spot.rows.all.now c.args.spot.row c.in-Previous.field-0 c.in-Previous.left _ (alone c.by-in-12.ensures c.at-in-12.ensures) c.saturating_sub.ensures c.in-12.is)

pub returns-in_default-rule : goal.returns-in_default-rule
returns-in_default-rule c = λ _. rw c.in-Previous.is (previous_leaf c.leaf-in_default-rule.result (code_of c.args.pick) _ _ (rule_in c.args.pick (omega arith)) (row_in c.args.pick (omega arith)) c.args.spot.rows.all.now c.args.spot.row c.in-Previous.field-0 c.in-Previous.left c.leaf-in_default-rule.ensures (λ e. omega arith))

pub returns-in-17 : goal.returns-in-17
returns-in-17 c = λ _. rw c.in-Next.is (next_one c.by-in-17.result (code_of c.args.pick) _ _ (rule_in c.args.pick (omega arith)) (row_in c.args.pick (omega arith)) c.args.spot.rows.all.now c.args.spot.row c.in-Next.field-0 c.in-Next.left (alone c.by-in-17.ensures c.at-in-17.ensures) c.in-17.is)

pub returns-in_default-rule-2 : goal.returns-in_default-rule-2
returns-in_default-rule-2 c = λ _. rw c.in-Next.is (next_leaf c.leaf-in_default-rule-2.result (code_of c.args.pick) _ _ (rule_in c.args.pick (omega arith)) (row_in c.args.pick (omega arith)) c.args.spot.rows.all.now c.args.spot.row c.in-Next.field-0 c.in-Next.left c.leaf-in_default-rule-2.ensures (λ e. omega arith))
