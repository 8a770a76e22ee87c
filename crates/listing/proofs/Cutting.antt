-- The rules end before the first empty line, and before no other.
use Rattle.std.proofs.Common.{Some, None, Option, MatchOption, unwrap_or, le_refl, ◌≡◌, ℕ, zero, suc, ◌+◌, ◌<◌, ◌≤◌, Bool, true, false, cond, ◌&&◌, eqb, List, [], ◌∷◌, length, refl, ap, ◌∙◌, one-add, ⊎_elim, arith}
use Rattle.std.proofs.lemmas.Bool.{both_ways, cases_order}
use Rattle.listing.specs.Inputs.{rules_length}
use Rattle.listing.specs.Laws.{empty_line_at, CutAtFirst, FirstEmptyLine}

-- one byte further on
later : (fresh : Bool) (b : ℕ) (bs : List ℕ) (k : ℕ) → empty_line_at fresh (b ∷ bs) (suc k) ≡ empty_line_at (eqb b 10) bs k
later fresh b bs zero = refl
later fresh b bs (suc k) = refl

within_more : (here : Bool) (n m : ℕ) → n ≤ m → cond here 0 (1 + n) ≤ suc m
within_more true n m h = omega arith
within_more false n m h = omega arith

within : (fresh : Bool) (bs : List ℕ) → rules_length fresh bs ≤ length bs
within fresh [] = omega arith
within fresh (b ∷ bs) = within_more (fresh && eqb b 10) (rules_length (eqb b 10) bs) (length bs) (within (eqb b 10) bs)

there_more : (fresh : Bool) (b : ℕ) (bs : List ℕ) (here : Bool) (n : ℕ) → (fresh && eqb b 10) ≡ here → (n < length bs → empty_line_at (eqb b 10) bs n ≡ true) → cond here 0 (1 + n) < suc (length bs) → empty_line_at fresh (b ∷ bs) (cond here 0 (1 + n)) ≡ true
there_more fresh b bs true n is rest more = is
there_more fresh b bs false n is rest more = ap (empty_line_at fresh (b ∷ bs)) (one-add n) ∙ later fresh b bs n ∙ rest (omega arith)

there : (fresh : Bool) (bs : List ℕ) → rules_length fresh bs < length bs → empty_line_at fresh bs (rules_length fresh bs) ≡ true
there fresh [] more = absurd (omega arith)
there fresh (b ∷ bs) more = there_more fresh b bs (fresh && eqb b 10) (rules_length (eqb b 10) bs) refl (there (eqb b 10) bs) more

none_more : (fresh : Bool) (b : ℕ) (bs : List ℕ) (here : Bool) (n k : ℕ) → (fresh && eqb b 10) ≡ here → ((j : ℕ) → j < n → empty_line_at (eqb b 10) bs j ≡ false) → k < cond here 0 (1 + n) → empty_line_at fresh (b ∷ bs) k ≡ false
none_more fresh b bs true n k is rest less = absurd (omega arith)
none_more fresh b bs false n zero is rest less = is
none_more fresh b bs false n (suc k) is rest less = later fresh b bs k ∙ rest k (omega arith)

none_before : (fresh : Bool) (bs : List ℕ) (k : ℕ) → k < rules_length fresh bs → empty_line_at fresh bs k ≡ false
none_before fresh [] k less = absurd (omega arith)
none_before fresh (b ∷ bs) k less = none_more fresh b bs (fresh && eqb b 10) (rules_length (eqb b 10) bs) k refl (none_before (eqb b 10) bs) less

pub cut_at_first : CutAtFirst
cut_at_first input = record { within = within true input; there = there true input; none_before = none_before true input }

-- the end of the first empty line is one place
apart : (text : List ℕ) (m n : ℕ) → FirstEmptyLine text m → FirstEmptyLine text n → m < n → ⊥
apart text m n f g less =
    let e = f.there (omega (arith, g.within)) in
    let d = g.none_before m less in
    both_ways _ d e

same_end : (text : List ℕ) (m n : ℕ) → FirstEmptyLine text m → FirstEmptyLine text n → m ≡ n
same_end text m n f g = ⊎_elim (λ e. e) (⊎_elim (λ h. absurd (apart text m n f g h)) (λ h. absurd (apart text n m g f h))) (cases_order m n)

-- a search over the places finds it
pub found : (text : List ℕ) (r : Option ℕ) →
    MatchOption r ((k : ℕ) → 0 ≤ k → k < length text → empty_line_at true text k ≡ false)
    (λ i. (0 ≤ i) × (i < length text) × (empty_line_at true text i ≡ true) × ((k : ℕ) → 0 ≤ k → k < i → empty_line_at true text k ≡ false)) →
    unwrap_or r (length text) ≡ rules_length true text
found text None h =
    same_end text _ _ (record { within = le_refl _; there = λ more. absurd (omega arith); none_before = λ k less. h k (omega arith) less }) (cut_at_first text)
found text (Some i) h =
    same_end text _ _ (record { within = omega (arith, h.1); there = λ more. h.2; none_before = λ k less. h.3 k (omega arith) less }) (cut_at_first text)
