-- What the rows of a log decide.
use Rattle.std.specs.Prelude.{◌≡◌, ℕ, ◌+◌, ◌-◌, ◌<◌, ◌≤◌, ◌⊎◌, List, length}
use Rattle.mtl.specs.Rows.{Row, time_at, last_time}
use Rattle.mtl.specs.Windows.{UpTo, Past}
use Rattle.mtl.specs.Formulas.{Formula, Mark, Not, And, Or, Previous, Next, Since, Until}

-- what the rows held decide, whatever comes after them
abbrev pub Reach : List Row → Formula → ℕ → Type 0
Reach R (Mark m) i = Unit {0}
Reach R (Not f) i = Reach R f i
Reach R (And f g) i = Reach R f i × Reach R g i
Reach R (Or f g) i = Reach R f i × Reach R g i
Reach R (Previous w f) i = (i ≡ 0) ⊎ Reach R f (i - 1)
Reach R (Next w f) i = (i + 1 < length R) × Reach R f (i + 1)
Reach R (Since w f g) i = (k : ℕ) → k ≤ i → Reach R f k × Reach R g k
Reach R (Until w f g) i =
    Past w.to (last_time R - time_at R i) ×
    ((k : ℕ) → i ≤ k → k < length R → UpTo w.to (time_at R k - time_at R i) → Reach R f k × Reach R g k)
