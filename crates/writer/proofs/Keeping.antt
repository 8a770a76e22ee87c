-- The rows that a window keeps of a run are a run again.
use Rattle.std.proofs.Common.{◌≡◌, ℕ, zero, suc, ◌+◌, ◌-◌, ◌<◌, ◌≤◌, Bool, true, false, cond, ◌∷◌, sym, ap, ◌∙◌, arith}
use native.Mathlib.Decide.{dec_lt}
use Rattle.mtl.specs.Ranges.{run, keep}
use Rattle.writer.proofs.Adding.{run_front, run_none}

pub keep_in : (p : ℕ → Bool) (lo hi n a : ℕ) → a ≤ lo → hi ≤ a + n → ((j : ℕ) → a ≤ j → j < lo → p j ≡ false) →
    ((j : ℕ) → hi ≤ j → j < a + n → p j ≡ false) → ((j : ℕ) → lo ≤ j → j < hi → p j ≡ true) → keep p (run a n) ≡ run lo (hi - lo)
unfolding keep run
keep_in p lo hi zero a h k before after between = sym (run_none lo hi (omega arith))
keep_in p lo hi (suc n) a h k before after between =
    elim (dec_lt a lo) [
      | yes q ↦
          ap (λ b. cond b (a ∷ keep p (run (suc a) n)) (keep p (run (suc a) n))) (before a (omega arith) q) ∙
          keep_in p lo hi n (suc a) (omega arith) (omega arith) (λ j x y. before j (omega arith) y) (λ j x y. after j x (omega arith)) between
      | no q ↦
          let next : keep p (run (suc a) n) ≡ run (suc a) (hi - suc a) =
          keep_in p (suc a) hi n (suc a) (omega arith) (omega arith) (λ j x y. absurd (omega arith)) (λ j x y. after j x (omega arith))
          (λ j x y. between j (omega arith) y) in
          let e : a ≡ lo = omega arith in
          elim (dec_lt a hi) [
            | yes l ↦
                ap (λ b. cond b (a ∷ keep p (run (suc a) n)) (keep p (run (suc a) n))) (between a (omega arith) l) ∙ ap (λ xs. a ∷ xs) next ∙
                sym (run_front a hi l) ∙ ap (λ x. run x (hi - x)) e
            | no l ↦
                ap (λ b. cond b (a ∷ keep p (run (suc a) n)) (keep p (run (suc a) n))) (after a (omega arith) (omega arith)) ∙ next ∙
                run_none (suc a) hi (omega arith) ∙ sym (run_none lo hi (omega arith))
          ]
    ]
