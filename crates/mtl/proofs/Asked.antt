-- Questions, and the first that is answered no.
use Rattle.std.proofs.Common.{◌≡◌, ℕ, Bool, true, false, cond, T as Yes, ◌⊎◌, List, [], ◌∷◌, Some, None, refl, ◌∙◌, inl, inr}
use Rattle.mtl.specs.Questions.{Question, first_no, FirstNot}
use Rattle.mtl.specs.Lists.{AllOf}

-- no question is answered no
pub all_yes : (qs : List Question) → AllOf (λ (q : Question). Yes q.1) qs → first_no qs ≡ None
all_yes [] h = refl
all_yes (q ∷ qs) h = go q.1 h.0 (all_yes qs h.1)
  where
    go : (b : Bool) → Yes b → first_no qs ≡ None → cond b (first_no qs) (Some q.0) ≡ None
    go true t e = e
    go false t e = absurd t

pub yes_all : (qs : List Question) → first_no qs ≡ None → AllOf (λ (q : Question). Yes q.1) qs
yes_all [] e = tt
yes_all (q ∷ qs) e = go q.1 (yes_all qs) e
  where
    go : (b : Bool) → (first_no qs ≡ None → AllOf (λ (q : Question). Yes q.1) qs) → cond b (first_no qs) (Some q.0) ≡ None → Yes b × AllOf (λ (q : Question). Yes q.1) qs
    go true f e = (tt, f e)
    go false f e = cc

-- each question, and the statement that it tests as far as those before it hold
abbrev pub Test : List Question → List (ℕ × Type 0) → Type 0
Test [] [] = Unit {0}
Test [] (p ∷ ps) = ⊥
Test (q ∷ qs) [] = ⊥
Test (q ∷ qs) (p ∷ ps) = (p.0 ≡ q.0) × (Yes q.1 → p.1) × (p.1 → Yes q.1) × (p.1 → Test qs ps)

pub first_not : (qs : List Question) (ps : List (ℕ × Type 0)) (n : ℕ) → Test qs ps → first_no qs ≡ Some n → FirstNot ps n
first_not [] [] n h e = cc
first_not [] (p ∷ ps) n h e = absurd h
first_not (q ∷ qs) [] n h e = absurd h
first_not (q ∷ qs) (p ∷ ps) n h e = go q.1 h.1 h.2 (λ y. first_not qs ps n (h.3 y)) e
  where
    go : (b : Bool) → (Yes b → p.1) → (p.1 → Yes b) → (p.1 → first_no qs ≡ Some n → FirstNot ps n) → cond b (first_no qs) (Some q.0) ≡ Some n →
        ((p.0 ≡ n) × (p.1 → ⊥)) ⊎ (p.1 × FirstNot ps n)
    go true f g r e = inr (f tt, r (f tt) e)
    go false f g r e = let k : q.0 ≡ n = cc in inl (h.0 ∙ k, g)
