-- How many lines a text has, and in which of them a place stands.
use Rattle.std.proofs.Common.{◌≡◌, ℕ, zero, suc, ◌+◌, ◌<◌, ◌≤◌, Bool, true, false, cond, eqb, ltb, List, [], ◌∷◌, ◌++◌, length, take, Some, None, fold, count_by, sym, refl, ap, ◌∙◌, arith}
use Rattle.std.specs.List.{prefix_len}
use Rattle.std.proofs.lemmas.Bool.{eqb-true, eq-eqb, ltb-true}
use Rattle.fields.specs.Bytes.{allowed, ended, line_at, wrong_line}
use Rattle.fields.specs.Cuts.{lines_on, lines_of}
use Rattle.text_writers.specs.Places.{lines_in}
use Rattle.text_writers.proofs.Cut.{last, last_append}
use Rattle.text_writers.proofs.Variants.{some_same}

-- how many bytes end a line
abbrev ends : List ℕ → ℕ
ends [] = 0
ends (b ∷ bs) = cond (eqb b 10) 1 0 + ends bs

counted_on : (n : ℕ) (bs : List ℕ) → fold (λ a b. a + cond (eqb b 10) 1 0) n bs ≡ n + ends bs
counted_on n [] = omega arith
counted_on n (b ∷ bs) = omega (arith, counted_on (n + cond (eqb b 10) 1 0) bs)

counted : (bs : List ℕ) → count_by (λ b. eqb b 10) bs ≡ ends bs
counted bs = omega (arith, counted_on 0 bs)

lines_many : (w bs : List ℕ) → length (lines_on w bs) ≡ ends bs
lines_many w [] = refl
lines_many w (b ∷ bs) = go (eqb b 10) (lines_many [] bs) (lines_many (w ++ b ∷ []) bs)
  where
    go : (t : Bool) → length (lines_on [] bs) ≡ ends bs → length (lines_on (w ++ b ∷ []) bs) ≡ ends bs → length (cond t (w ∷ lines_on [] bs) (lines_on (w ++ b ∷ []) bs)) ≡ cond t 1 0 + ends bs
    go true h k = omega (arith, h)
    go false h k = omega (arith, k)

take_le : (i : ℕ) (bs : List ℕ) → ends (take i bs) ≤ ends bs
take_le zero bs = omega arith
take_le (suc i) [] = omega arith
take_le (suc i) (b ∷ bs) = omega (arith, take_le i bs)

last_next : (b c : ℕ) (cs : List ℕ) → last (b ∷ c ∷ cs) ≡ 10 → last (c ∷ cs) ≡ 10
last_next b c cs h = sym (last_append (b ∷ []) (c ∷ cs) (omega arith)) ∙ h

some_end : (b : ℕ) (bs : List ℕ) → last (b ∷ bs) ≡ 10 → 1 ≤ ends (b ∷ bs)
some_end b [] h = let one : ◌≡◌ {A = ℕ} (cond (eqb b 10) 1 0) 1 = ap (λ t. cond {A = ℕ} t 1 0) (eq-eqb b 10 h) in omega (arith, one)
some_end b (c ∷ cs) h = omega (arith, some_end c cs (last_next b c cs h))

take_less : (i : ℕ) (bs : List ℕ) → i < length bs → last bs ≡ 10 → ends (take i bs) + 1 ≤ ends bs
take_less i [] h l = absurd (omega arith)
take_less zero (b ∷ bs) h l = omega (arith, some_end b bs l)
take_less (suc i) (b ∷ []) h l = absurd (omega arith)
take_less (suc i) (b ∷ c ∷ cs) h l = omega (arith, take_less i (c ∷ cs) (omega arith) (last_next b c cs l))

pub some_line : (text : List ℕ) → 1 ≤ lines_in text
some_line [] = omega arith
some_line (b ∷ bs) = go (ended (b ∷ bs)) refl
  where
    go : (e : Bool) → ended (b ∷ bs) ≡ e → 1 ≤ length (lines_of (b ∷ bs)) + cond e 0 1
    go true is = omega (arith, lines_many [] (b ∷ bs), some_end b bs (eqb-true (last (b ∷ bs)) 10 is))
    go false is = omega arith

-- the line of a wrong byte, or of an end that is missing
pub wrong_within : (text : List ℕ) (n : ℕ) → wrong_line text ≡ Some n → (1 ≤ n) × (n ≤ lines_in text)
wrong_within text n h = go (ltb at (length text)) (ended text) refl refl h
  where
    at : ℕ
    at = prefix_len allowed text

    go : (a e : Bool) → ltb at (length text) ≡ a → ended text ≡ e → cond a (Some (line_at text at)) (cond e None (Some (line_at text (length text)))) ≡ Some n → (1 ≤ n) × (n ≤ length (lines_of text) + cond e 0 1)
    go true true a e h =
        let is : line_at text at ≡ n = some_same h in
        (omega (arith, is), omega (arith, is, counted (take at text), lines_many [] text, take_less at text (ltb-true at (length text) a) (eqb-true (last text) 10 e)))
    go true false a e h = let is : line_at text at ≡ n = some_same h in (omega (arith, is), omega (arith, is, counted (take at text), lines_many [] text, take_le at text))
    go false true a e h = absurd (cc)
    go false false a e h = let is : line_at text (length text) ≡ n = some_same h in (omega (arith, is), omega (arith, is, counted (take (length text) text), lines_many [] text, take_le (length text) text))
