-- A field of digits, byte by byte.
use Rattle.std.proofs.Common.{◌≡◌, ℕ, ◌+◌, ◌-◌, ◌*◌, ◌<◌, ◌≤◌, true, List, [], ◌∷◌, length, get_or, drop, None, sym, ◌∙◌, arith, rules}
use Rattle.std.specs.Str.{all_ascii_digits}
use Rattle.std.proofs.lemmas.List.{at_drop_more}
use Rattle.std.proofs.lemmas.Bool.Decides.{nat_tests}
use Rattle.std.proofs.lemmas.Str.Parse.{IsNumeralModel, numerals_by_fold}
use Rattle.fields.specs.Numbers.{read_on, number_to}

-- the words for digits and their value, as the library's lemmas on decimals take them
pub own : IsNumeralModel (λ ds. all_ascii_digits ds ≡ true) (read_on 0)
own = numerals_by_fold _ (search rules) read_on (search rules)

refuse_large : (most : ℕ) (bs : List ℕ) → most < read_on 0 bs → None ≡ number_to most bs
refuse_large most bs e = grind (arith, nat_tests)

read_on_ge : (n : ℕ) (bs : List ℕ) → n ≤ read_on n bs
read_on_ge n [] = omega arith
read_on_ge n (c ∷ cs) = omega (arith, read_on_ge (10 * n + (c - 48)) cs)

-- one turn of the loop
module _ (most : ℕ) (bs : List ℕ) (i n : ℕ) (h : i < length bs) (value : read_on n (drop i bs) ≡ read_on 0 bs) where
  next_value : read_on (10 * n + (get_or bs i 0 - 48)) (drop (i + 1) bs) ≡ read_on 0 bs
  next_value = sym (at_drop_more (read_on n) bs i 0 h) ∙ value

  pub too_large : most < 10 * n + (get_or bs i 0 - 48) → None ≡ number_to most bs
  too_large e = refuse_large most bs (omega (arith, next_value, read_on_ge (10 * n + (get_or bs i 0 - 48)) (drop (i + 1) bs)))
