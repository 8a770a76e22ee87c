use Rattle.std.proofs.Common.{arith}
use Rattle.writer.proofs.Taking.{mark_held, and_held, or_left, or_right, previous_held, next_held, since_held, until_held}
use Rattle.writer.specs.Choice.{code_of}
use Rattle.writer.proofs.Making.{alone, led, both}
use Rattle.writer.proofs.Taking.{rule_in, row_in}
use Rattle.writer.proofs.ways.held_way.Goals as goal

pub returns-in-Mark : goal.returns-in-Mark
returns-in-Mark c = λ _. rw c.in-Mark.is (mark_held c.leaf.result (code_of c.args.pick) _ _ (rule_in c.args.pick (omega arith)) (row_in c.args.pick (omega arith)) c.args.spot.rows.all.now c.args.spot.row c.in-Mark.field-0 c.leaf.ensures)

pub returns-in-And : goal.returns-in-And
returns-in-And c = λ _. rw c.in-And.is (and_held c.by_two.result (code_of c.args.pick) _ _ (rule_in c.args.pick (omega arith)) (row_in c.args.pick (omega arith)) c.args.spot.rows.all.now c.args.spot.row c.in-And.left c.in-And.right (both c.by_two.ensures c.at-in-And.ensures c.at-in-And-2.ensures))

pub returns-in-8 : goal.returns-in-8
returns-in-8 c = λ _. rw c.in-Or.is (or_left c.by-in-8.result (code_of c.args.pick) _ _ (rule_in c.args.pick (omega arith)) (row_in c.args.pick (omega arith)) c.args.spot.rows.all.now c.args.spot.row c.in-Or.left c.in-Or.right (alone c.by-in-8.ensures c.at-in-8.ensures) c.in-8.is)

pub returns-in_default : goal.returns-in_default
returns-in_default c = λ _. rw c.in-Or.is (or_right c.by-in_default.result (code_of c.args.pick) _ _ (rule_in c.args.pick (omega arith)) (row_in c.args.pick (omega arith)) c.args.spot.rows.all.now c.args.spot.row c.in-Or.left c.in-Or.right (alone c.by-in_default.ensures c.at-in_default.ensures) (λ e. omega arith))

pub returns-in-Previous : goal.returns-in-Previous
returns-in-Previous c = λ _. rw c.in-Previous.is (previous_held c.by-in-Previous.result (code_of c.args.pick) _ _ (rule_in c.args.pick (omega arith)) (row_in c.args.pick (omega arith)) c.args.spot.rows.all.now c.args.spot.row c.in-Previous.field-0 c.in-Previous.left _ (alone c.by-in-Previous.ensures c.at-in-Previous.ensures) c.saturating_sub.ensures)

pub returns-in-Next : goal.returns-in-Next
returns-in-Next c = λ _. rw c.in-Next.is (next_held c.by-in-Next.result (code_of c.args.pick) _ _ (rule_in c.args.pick (omega arith)) (row_in c.args.pick (omega arith)) c.args.spot.rows.all.now c.args.spot.row c.in-Next.field-0 c.in-Next.left (alone c.by-in-Next.ensures c.at-in-Next.ensures))

pub returns-in-Since : goal.returns-in-Since
returns-in-Since c = λ _. rw c.in-Since.is (since_held c.by_two-in-Since.result (code_of c.args.pick) _ _ (rule_in c.args.pick (omega arith)) (row_in c.args.pick (omega arith)) c.args.spot.rows.all.now c.args.spot.row c.in-Since.field-0 c.in-Since.left c.in-Since.right (led c.by_two-in-Since.ensures c.at-in-Since.ensures))

pub returns-in-Until : goal.returns-in-Until
returns-in-Until c = λ _. rw c.in-Until.is (until_held c.by_two-in-Until.result (code_of c.args.pick) _ _ (rule_in c.args.pick (omega arith)) (row_in c.args.pick (omega arith)) c.args.spot.rows.all.now c.args.spot.row c.in-Until.field-0 c.in-Until.left c.in-Until.right (led c.by_two-in-Until.ensures c.at-in-Until.ensures))
