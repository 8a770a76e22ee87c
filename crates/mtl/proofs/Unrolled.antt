use Rattle.std.proofs.Common.{◌≡◌, ℕ, zero, suc, ◌<◌, length, refl, ap, ap₂, arith}
use Rattle.mtl.specs.Formulas.{Formula, Not, And, Or, Previous, Next, Since, Until, shape, unrolled, formula}
use Rattle.mtl.specs.Lines.{Line, mark, neg, and, or, previous, next, since, until, Rules, line_at, WellFormed}
use Rattle.mtl.proofs.Operands.{Earlier, earlier_at}

pub shape_same : (f g : ℕ → Formula) (n : ℕ) (l : Line) → Earlier n l → ((k : ℕ) → k < n → f k ≡ g k) → shape f l ≡ shape g l
shape_same f g n (mark m) e h = refl
shape_same f g n (neg l) e h = ap Not (h l e)
shape_same f g n (and l r) e h = ap₂ And (h l e.0) (h r e.1)
shape_same f g n (or l r) e h = ap₂ Or (h l e.0) (h r e.1)
shape_same f g n (previous w l) e h = ap (Previous w) (h l e)
shape_same f g n (next w l) e h = ap (Next w) (h l e)
shape_same f g n (since w l r) e h = ap₂ (Since w) (h l e.0) (h r e.1)
shape_same f g n (until w l r) e h = ap₂ (Until w) (h l e.0) (h r e.1)

pub unrolled_same : (T : Rules) → WellFormed T → (d e n : ℕ) → n < length T → n < d → n < e → unrolled T d n ≡ unrolled T e n
unfolding unrolled
unrolled_same T wf zero e n k p q = absurd (omega arith)
unrolled_same T wf (suc d) zero n k p q = absurd (omega arith)
unrolled_same T wf (suc d) (suc e) n k p q =
    shape_same (unrolled T d) (unrolled T e) n (line_at T n) (earlier_at T wf n k) (λ m h. unrolled_same T wf d e m (omega arith) (omega arith) (omega arith))

pub formula_at : (T : Rules) → WellFormed T → (n : ℕ) → n < length T → formula T n ≡ shape (formula T) (line_at T n)
unfolding formula unrolled
formula_at T wf n k = shape_same (unrolled T n) (formula T) n (line_at T n) (earlier_at T wf n k) (λ m h. unrolled_same T wf n (suc m) m (omega arith) h (omega arith))
