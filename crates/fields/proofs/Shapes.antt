-- How many fields are left.
use Rattle.std.proofs.Common.{◌≡◌, ℕ, zero, suc, ◌+◌, ◌-◌, ◌<◌, Bool, true, not, ◌&&◌, List, [], ◌∷◌, length, sym, refl, ap, ◌∙◌, arith}
use Rattle.std.proofs.lemmas.Bool.{and_parts}
use Rattle.std.proofs.lemmas.Bool.Decides.{nat_tests}
use Rattle.fields.specs.States.{is_none}
use Rattle.fields.specs.Tokens.{Said, is_field, is_end, said_by, first_of, rest_of}
use Rattle.fields.specs.Cuts.{shaped}

field_by : (w : List ℕ) → is_field (said_by w) ≡ not (is_none w)
field_by [] = refl
field_by (b ∷ []) = grind (arith, nat_tests)
field_by (b ∷ c ∷ cs) = refl

shaped_more : (n : ℕ) (fs : List (List ℕ)) → shaped (suc n) fs ≡ (is_field (first_of fs) && shaped n (rest_of fs))
shaped_more n [] = refl
shaped_more n (w ∷ ws) = ap (λ b. b && shaped n ws) (sym (field_by w))

pub shaped_none : (fs : List (List ℕ)) → shaped 0 fs ≡ is_end (first_of fs)
shaped_none [] = refl
shaped_none ([] ∷ ws) = refl
shaped_none ((b ∷ []) ∷ ws) = grind (arith, nat_tests)
shaped_none ((b ∷ c ∷ cs) ∷ ws) = refl

-- one turn of the loop over fields
pub shaped_turn :
    (count i : ℕ) (fs rest : List (List ℕ)) (t : Said) (b : Bool) → i < count → t ≡ first_of fs → rest ≡ rest_of fs → b ≡ is_field t →
    (b && shaped (count - (i + 1)) rest) ≡ shaped (count - i) fs
shaped_turn count i fs rest t b less first left is =
    let k : count - i ≡ suc (count - (i + 1)) = omega arith in
    let more = ap (λ n. shaped n fs) k ∙ shaped_more (count - (i + 1)) fs in
    ap (λ x. x && shaped (count - (i + 1)) rest) (is ∙ ap is_field first) ∙ ap (λ r. is_field (first_of fs) && shaped (count - (i + 1)) r) left ∙ sym more

pub shaped_length : (n : ℕ) (fs : List (List ℕ)) → shaped n fs ≡ true → length fs ≡ n
shaped_length zero [] h = refl
shaped_length zero (w ∷ ws) h = absurd (cc)
shaped_length (suc n) [] h = absurd (cc)
shaped_length (suc n) (w ∷ ws) h = ap suc (shaped_length n ws (and_parts (not (is_none w)) (shaped n ws) h).1)
