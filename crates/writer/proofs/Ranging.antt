-- The children of the rules that list rows of a window, as runs.
use Rattle.std.proofs.Common.{◌≡◌, ℕ, suc, ◌+◌, ◌-◌, ◌/◌, ◌%◌, ◌<◌, ◌≤◌, true, ◌&&◌, leb, List, [], ◌∷◌, length, sym, ap, ◌∙◌, ap₂, arith}
use Rattle.std.proofs.lemmas.Bool.{le-leb, lt-leb}
use Rattle.mtl.specs.Claims.{claim, each, Broken}
use Rattle.mtl.specs.Forms.{forms}
use Rattle.mtl.specs.Ranges.{run, range, keep}
use Rattle.mtl.specs.Rows.{time_at}
use Rattle.mtl.specs.Windows.{up_to, past, inside}
use Rattle.mtl.specs.declared.line.Line.TheVariants.{Since, Until}
use Rattle.mtl.specs.declared.line.Window.{Window}
use Rattle.mtl.specs.declared.row.Row.{Row}
use Rattle.mtl.specs.declared.ruling.Ruling.TheVariants.{Broken as broken}
use Rattle.writer.specs.Passes.{far_before, in_before, far_after, in_after}
use Rattle.writer.specs.Ways.{Way, Makes, Takes}
use Rattle.writer.proofs.Keeping.{keep_in}
use Rattle.writer.proofs.Outside.{past_outside, first_false}
use Rattle.writer.proofs.Taking.{takes, unbroken}

in_true : (v : Window) (d : ℕ) → v.from ≤ d → up_to v.to d ≡ true → inside v d ≡ true
in_true v d h u = ap₂ (λ a b. a && b) (le-leb v.from d h) u

module _ (w : Way) (code rule row : ℕ) (ruled : rule ≡ code / 256) (rowed : row ≡ code % 256) (R : List Row) (i : ℕ) (v : Window) (l r : ℕ) where
  module _ (near : ℕ) (below : near ≤ i + 1) (far : (j : ℕ) → j < near → v.from ≤ time_at R i - time_at R j)
      (close : (j : ℕ) → near ≤ j → j ≤ i → time_at R i - time_at R j < v.from) where
    rows_21 : (j : ℕ) → j < suc i → keep (far_before R i v) (range j i) ≡ run j (near - j)
    unfolding range
    rows_21 j b = keep_in (far_before R i v) j near (suc i - j) j (omega arith) (omega arith) (λ k x y. absurd (omega arith))
        (λ k x y. lt-leb v.from (time_at R i - time_at R k) (close k x (omega arith))) (λ k x y. le-leb v.from (time_at R i - time_at R k) (far k y))

    pub by_21 : Makes w rule (λ q. claim l row q ∷ each q r (run row (near - row))) → rule ≡ 21 →
        Takes w broken code (forms R i (Since v l r))
    unfolding forms
    by_21 k e = takes w broken code (forms R i (Since v l r)) (k.ruled ∙ ruled) (
      (λ u. absurd (unbroken u)),
      (
        (λ u j o b n m.
            ap (λ xs. Broken l j ∷ each broken r xs) (rows_21 j (omega arith)) ∙
            ap (λ y. claim l y broken ∷ each broken r (run y (near - y))) (sym (rowed ∙ m)) ∙ sym (k.kids_are broken)),
        ((λ u j o b n m. absurd (omega arith)), ((λ u j o b n m. absurd (omega arith)), tt)),
      ),
    )

    pub by_22 : (lo : ℕ) → lo ≤ i → ((j : ℕ) → j < lo → past v.to (time_at R i - time_at R j) ≡ true) →
        ((j : ℕ) → lo ≤ j → j < length R → up_to v.to (time_at R i - time_at R j) ≡ true) → i < length R →
        Makes w rule (λ q. each q r (run lo (near - lo))) → rule ≡ 22 → Takes w broken code (forms R i (Since v l r))
    unfolding forms range
    by_22 lo h outside within z k e = takes w broken code (forms R i (Since v l r)) (k.ruled ∙ ruled) (
      (λ u. absurd (unbroken u)),
      (
        (λ u j o b n m. absurd (omega arith)),
        (
          (λ u j o b n m.
              ap (each broken r)
              (keep_in (in_before R i v) lo near (suc i - 0) 0 (omega arith) (omega arith) (λ k x y. past_outside v (time_at R i - time_at R k) (outside k y))
              (λ k x y. first_false (leb v.from (time_at R i - time_at R k)) (up_to v.to (time_at R i - time_at R k)) (lt-leb v.from (time_at R i - time_at R k) (close k x (omega arith))))
              (λ k x y. in_true v (time_at R i - time_at R k) (far k y) (within k x (omega arith)))) ∙
              sym (k.kids_are broken)),
          ((λ u j o b n m. absurd (omega arith)), tt),
        ),
      ),
    )

  pub by_23 : Makes w rule (λ q. []) → (rule ≡ 21 → ⊥) → (rule ≡ 22 → ⊥) → Takes w broken code (forms R i (Since v l r))
  unfolding forms
  by_23 k e f = takes w broken code (forms R i (Since v l r)) (k.ruled ∙ ruled) (
    (λ u. absurd (unbroken u)),
    ((λ u j o b n m. absurd (e (ruled ∙ n))), ((λ u j o b n m. absurd (f (ruled ∙ n))), ((λ u j o b n m. sym (k.kids_are broken)), tt))),
  )

  module _ (from : ℕ) (low : i ≤ from) (close : (j : ℕ) → i ≤ j → j < from → time_at R j - time_at R i < v.from)
      (far : (j : ℕ) → from ≤ j → j < length R → v.from ≤ time_at R j - time_at R i) where
    rows_25 : (j : ℕ) → i ≤ j → j < i + (length R - i) → keep (far_after R i v) (range i j) ≡ run from (j + 1 - from)
    unfolding range
    rows_25 j o b = keep_in (far_after R i v) from (j + 1) (suc j - i) i low (omega arith) (λ k x y. lt-leb v.from (time_at R k - time_at R i) (close k x y))
        (λ k x y. absurd (omega arith)) (λ k x y. le-leb v.from (time_at R k - time_at R i) (far k x (omega arith)))

    pub by_25 : Makes w rule (λ q. claim l row q ∷ each q r (run from (row + 1 - from))) → rule ≡ 25 →
        Takes w broken code (forms R i (Until v l r))
    unfolding forms
    by_25 k e = takes w broken code (forms R i (Until v l r)) (k.ruled ∙ ruled) (
      (λ u. absurd (unbroken u)),
      (
        (λ u j o b n m.
            ap (λ xs. Broken l j ∷ each broken r xs) (rows_25 j o b) ∙
            ap (λ y. claim l y broken ∷ each broken r (run from (y + 1 - from))) (sym (rowed ∙ m)) ∙ sym (k.kids_are broken)),
        ((λ u j o b n m. absurd (omega arith)), tt),
      ),
    )

    pub by_26 : (end : ℕ) → i ≤ end → end ≤ length R → ((j : ℕ) → j < end → up_to v.to (time_at R j - time_at R i) ≡ true) →
        ((j : ℕ) → end ≤ j → j < length R → past v.to (time_at R j - time_at R i) ≡ true) →
        Makes w rule (λ q. each q r (run from (end - from))) → (rule ≡ 25 → ⊥) → Takes w broken code (forms R i (Until v l r))
    unfolding forms
    by_26 end h z within outside k e = takes w broken code (forms R i (Until v l r)) (k.ruled ∙ ruled) (
      (λ u. absurd (unbroken u)),
      (
        (λ u j o b n m. absurd (e (ruled ∙ n))),
        (
          (λ u j o b n m.
              ap (each broken r)
              (keep_in (in_after R i v) from end (length R - i) i low (omega arith)
              (λ k x y. first_false (leb v.from (time_at R k - time_at R i)) (up_to v.to (time_at R k - time_at R i)) (lt-leb v.from (time_at R k - time_at R i) (close k x y)))
              (λ k x y. past_outside v (time_at R k - time_at R i) (outside k x (omega arith)))
              (λ k x y. in_true v (time_at R k - time_at R i) (far k x (omega arith)) (within k y))) ∙
              sym (k.kids_are broken)),
          tt,
        ),
      ),
    )
