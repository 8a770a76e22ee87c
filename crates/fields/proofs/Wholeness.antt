-- Cutting a line into fields loses nothing.
use Rattle.std.proofs.Common.{◌≡◌, ℕ, true, false, eqb, List, [], ◌∷◌, ◌++◌, sym, refl, ap, ◌∙◌}
use Rattle.std.proofs.lemmas.List.{append_assoc}
use Rattle.std.proofs.lemmas.Bool.{cond_both, eqb-true, and_parts, and_from, not_from_false}
use Rattle.fields.specs.Cuts.{fields_on, spaced, spaceless, all_spaceless, Whole}

spaced_on : (w bs : List ℕ) → spaced (fields_on w bs) ≡ 32 ∷ (w ++ bs)
spaced_on w [] = refl
spaced_on w (b ∷ bs) = cond_both (eqb b 32) _ _ (λ fs. spaced fs ≡ 32 ∷ (w ++ (b ∷ bs)))
    (λ is. ap (λ s. 32 ∷ (w ++ s)) (spaced_on [] bs ∙ ap (λ x. x ∷ bs) (sym (eqb-true b 32 is))))
    (λ off. spaced_on (w ++ b ∷ []) bs ∙ ap (λ s. 32 ∷ s) (append_assoc w (b ∷ []) bs))

spaceless_more : (w : List ℕ) (b : ℕ) → spaceless w ≡ true → eqb b 32 ≡ false → spaceless (w ++ b ∷ []) ≡ true
spaceless_more [] b h off = and_from _ _ (not_from_false _ off) refl
spaceless_more (c ∷ cs) b h off = let p = and_parts _ _ h in and_from _ _ p.0 (spaceless_more cs b p.1 off)

spaceless_on : (w bs : List ℕ) → spaceless w ≡ true → all_spaceless (fields_on w bs) ≡ true
spaceless_on w [] h = and_from _ _ h refl
spaceless_on w (b ∷ bs) h = cond_both (eqb b 32) _ _ (λ fs. all_spaceless fs ≡ true)
    (λ is. and_from _ _ h (spaceless_on [] bs refl))
    (λ off. spaceless_on (w ++ b ∷ []) bs (spaceless_more w b h off))

pub whole : (line : List ℕ) → Whole line
whole line = record { all = spaced_on [] line; none = spaceless_on [] line refl }
