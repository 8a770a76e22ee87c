use Rattle.std.proofs.Common.{ℕ, zero, suc, ◌+◌, ◌<◌, ◌≤◌, Bool, true, false, T as Yes, List, [], ◌∷◌, sym, subst, arith}
use native.Mathlib.Decide.{ℕ_discrete}
use Rattle.mtl.specs.Forms.{Step, guard, for_each}
use Rattle.mtl.specs.Ranges.{run}
use Rattle.mtl.specs.Lists.{AllOf, AnyOf, here}
use Rattle.mtl.proofs.Lists.{any_left, any_right, all_both}

pub any_guard : (P : Step → Type 0) (b : Bool) (xs : List Step) → Yes b → AnyOf P xs → AnyOf P (guard b xs)
unfolding guard
any_guard P true xs t h = h
any_guard P false xs t h = absurd t

pub all_guard : (P : Step → Type 0) (b : Bool) (xs : List Step) → (Yes b → AllOf P xs) → AllOf P (guard b xs)
unfolding guard
all_guard P true xs h = h tt
all_guard P false xs h = tt

pub all_only : (P : Step → Type 0) (b : Bool) (s : Step) → (Yes b → P s) → AllOf P (guard b (s ∷ []))
unfolding guard
all_only P true s h = (h tt, tt)
all_only P false s h = tt

pub any_only : (P : Step → Type 0) (b : Bool) (s : Step) → Yes b → P s → AnyOf P (guard b (s ∷ []))
unfolding guard
any_only P true s t h = here h
any_only P false s t h = absurd t

pub any_each : (P : Step → Type 0) (f : ℕ → List Step) (a n k : ℕ) → a ≤ k → k < a + n → AnyOf P (f k) → AnyOf P (for_each f (run a n))
unfolding for_each run
any_each P f a zero k lo hi h = absurd (omega arith)
any_each P f a (suc n) k lo hi h =
    elim (ℕ_discrete a k) [
      | yes e ↦ any_left P (f a) _ (subst (λ x. AnyOf P (f x)) (sym e) h)
      | no ne ↦ any_right P (f a) _ (any_each P f (suc a) n k (omega arith) (omega arith) h)
    ]

pub all_each : (P : Step → Type 0) (f : ℕ → List Step) (a n : ℕ) → ((k : ℕ) → a ≤ k → k < a + n → AllOf P (f k)) → AllOf P (for_each f (run a n))
unfolding for_each run
all_each P f a zero h = tt
all_each P f a (suc n) h = all_both P (f a) _ (h a (omega arith) (omega arith)) (all_each P f (suc a) n (λ k lo hi. h k (omega arith) (omega arith)))
