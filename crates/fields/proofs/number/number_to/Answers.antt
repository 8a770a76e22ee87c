use Rattle.std.proofs.Common.{◌*◌, ◌≤◌, ◌∙◌, arith}
use Rattle.fields.proofs.Numerals.{too_large}
use Rattle.fields.proofs.number.number_to.Goals as goal

pub returns-in_err-checked_mul : goal.returns-in_err-checked_mul
returns-in_err-checked_mul c =
    let big : 18446744073709551616 ≤ c.loop-b.n * 10 = omega (arith, c.in_err-checked_mul.ensures) in
    c.from_residual.ensures ∙ too_large c.args.most _ _ _ c.loop-b-test.true c.loop-b.invariant.0 (omega arith)

pub returns-in_err-n : goal.returns-in_err-n
returns-in_err-n c =
    let tens = c.in_ok-checked_mul.ensures in
    let digit = c.from.ensures in
    let big = c.in_err-n.ensures in
    c.from_residual-in_err-n.ensures ∙ too_large c.args.most _ _ _ c.loop-b-test.true c.loop-b.invariant.0 (omega arith)
