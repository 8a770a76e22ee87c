-- The first line of a text.
use Rattle.std.proofs.Common.{◌≡◌, ℕ, ◌+◌, ◌-◌, ◌<◌, ◌≤◌, Bool, true, false, not, eqb, cond, suc, List, [], ◌∷◌, ◌++◌, length, take, drop, sym, refl, ap, ◌∙◌, append_assoc, arith}
use Rattle.std.specs.List.{position_or_len}
use Rattle.std.proofs.lemmas.Bool.{cond_both}
use Rattle.std.proofs.lemmas.List.{append-nil, take_rest, length-drop}
use Rattle.fields.specs.Cuts.{lines_on, lines_of}

lines_few_on : (w bs : List ℕ) → length (lines_on w bs) ≤ length bs
lines_few_on w [] = omega arith
lines_few_on w (b ∷ bs) = cond_both (eqb b 10) _ _ (λ ls. length ls ≤ suc (length bs))
    (λ _. omega (arith, lines_few_on [] bs))
    (λ _. omega (arith, lines_few_on (w ++ b ∷ []) bs))

-- a text has no more lines than bytes
pub lines_few : (text : List ℕ) → length (lines_of text) ≤ length text
lines_few text = lines_few_on [] text

-- the place of the first end, or the text's length
abbrev pub end_of : List ℕ → ℕ
end_of bs = position_or_len (λ b. eqb b 10) bs

none_at : (ends : Bool) (w bs : List ℕ) (b : ℕ) → (length bs ≤ end_of bs → lines_on (w ++ b ∷ []) bs ≡ []) → length bs + 1 ≤ cond (not ends) (1 + end_of bs) 0 →
    cond ends (w ∷ lines_on [] bs) (lines_on (w ++ b ∷ []) bs) ≡ []
none_at true w bs b more h = absurd (omega arith)
none_at false w bs b more h = more (omega arith)

pub no_end : (w bs : List ℕ) → length bs ≤ end_of bs → lines_on w bs ≡ []
no_end w [] h = refl
no_end w (b ∷ bs) h = none_at (eqb b 10) w bs b (no_end (w ++ b ∷ []) bs) (omega arith)

first_at : (ends : Bool) (w bs : List ℕ) (b n : ℕ) → n ≡ cond (not ends) (1 + end_of bs) 0 →
    (end_of bs < length bs → lines_on (w ++ b ∷ []) bs ≡ (w ++ b ∷ [] ++ take (end_of bs) bs) ∷ lines_of (drop (end_of bs + 1) bs)) → n < length bs + 1 →
    cond ends (w ∷ lines_on [] bs) (lines_on (w ++ b ∷ []) bs) ≡ (w ++ take n (b ∷ bs)) ∷ lines_of (drop (n + 1) (b ∷ bs))
first_at true w bs b n is more h =
    ap (λ v. v ∷ lines_of bs) (sym (append-nil w)) ∙ ap (λ k. (w ++ take k (b ∷ bs)) ∷ lines_of (drop (k + 1) (b ∷ bs))) (sym is)
first_at false w bs b n is more h =
    let one : suc (end_of bs) ≡ n = omega arith in
    let two : suc (end_of bs + 1) ≡ n + 1 = omega arith in
    more (omega arith) ∙ ap (λ v. v ∷ lines_of (drop (end_of bs + 1) bs)) (append_assoc w (b ∷ []) (take (end_of bs) bs)) ∙ (λ i. (w ++ take (one i) (b ∷ bs)) ∷ lines_of (drop (two i) (b ∷ bs)))

pub first_end : (w bs : List ℕ) → end_of bs < length bs → lines_on w bs ≡ (w ++ take (end_of bs) bs) ∷ lines_of (drop (end_of bs + 1) bs)
first_end w [] h = absurd (omega arith)
first_end w (b ∷ bs) h = first_at (eqb b 10) w bs b (end_of (b ∷ bs)) refl (first_end (w ++ b ∷ []) bs) (omega arith)

-- the first line and the rest, as two slices of the text
pub cut_line : (s : List ℕ) (i : ℕ) → i ≡ end_of s → i < length s → lines_of s ≡ take i s ∷ lines_of (take (length s - (i + 1)) (drop (i + 1) s))
cut_line s i is h = first_end [] s (omega arith) ∙ (λ k. take (sym is k) s ∷ lines_of (drop (sym is k + 1) s)) ∙ ap (λ r. take i s ∷ lines_of r) (sym (take_rest s (i + 1)))

pub cut_rest : (s : List ℕ) (i : ℕ) → i < length s → length (take (length s - (i + 1)) (drop (i + 1) s)) < length s
cut_rest s i h = omega (arith, ap length (take_rest s (i + 1)), length-drop (i + 1) s)
