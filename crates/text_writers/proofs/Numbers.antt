-- A field of digits and the number that it writes.
use Rattle.std.proofs.Common.{◌≡◌, ℕ, ◌^◌, ◌<◌, ◌≤◌, true, false, cond, List, [], ◌∷◌, length, get_or, Some, decimal, sym, refl, ap, ◌∙◌, ⊎_elim, arith}
use Rattle.std.specs.Str.{all_ascii_digits}
use Rattle.std.proofs.lemmas.Fmt.{decimal_digit, decimal_nonempty, first_decimal, digits_decimal, digits_value-decimal, decimal-digits_value}
use Rattle.std.proofs.lemmas.Bool.{and_right, cases_eq, ne_eqb}
use Rattle.std.proofs.lemmas.Bool.Decides.{nat_tests}
use Rattle.fields.specs.Numbers.{read_on, leading_zero, number_to}
use Rattle.fields.specs.States.{is_dash, is_none}
use Rattle.fields.specs.Tokens.{word, dash, said_by}
use Rattle.fields.proofs.Numerals.{own}
use Rattle.text_writers.proofs.Cut.{clean}

pub digits : (n : ℕ) → n < 2 ^ 64 → all_ascii_digits (decimal n) ≡ true
digits n h = digits_decimal own n h

pub clean_digits : (w : List ℕ) → all_ascii_digits w ≡ true → clean w ≡ true
clean_digits [] h = refl
clean_digits (b ∷ bs) h = let more = clean_digits bs in grind (arith, nat_tests, more)

pub clean_decimal : (n : ℕ) → n < 2 ^ 64 → clean (decimal n) ≡ true
clean_decimal n h = clean_digits (decimal n) (digits n h)

none_length : (w : List ℕ) → 0 < length w → is_none w ≡ false
none_length [] h = absurd (omega arith)
none_length (b ∷ bs) h = refl

pub some_decimal : (n : ℕ) → n < 2 ^ 64 → is_none (decimal n) ≡ false
some_decimal n h = none_length (decimal n) (decimal_nonempty n h)

digits_dash : (w : List ℕ) → all_ascii_digits w ≡ true → is_dash w ≡ false
digits_dash [] h = refl
digits_dash (b ∷ []) h = grind (arith, nat_tests)
digits_dash (b ∷ c ∷ cs) h = refl

pub said_word : (w : List ℕ) → is_dash w ≡ false → said_by w ≡ word w
said_word w h = ap (λ b. cond b dash (word w)) h

pub said_decimal : (n : ℕ) → n < 2 ^ 64 → said_by (decimal n) ≡ word (decimal n)
said_decimal n h = said_word (decimal n) (digits_dash (decimal n) (digits n h))

no_zero : (n : ℕ) → n < 2 ^ 64 → leading_zero (decimal n) ≡ false
no_zero n h = ⊎_elim
    (λ (z : n ≡ 0). ap (λ m. leading_zero (decimal m)) z ∙ ap leading_zero (decimal_digit 0 (omega arith)))
    (λ z. and_right _ _ (ne_eqb (get_or (decimal n) 0 0) 48 (λ e. omega (arith, first_decimal n (omega arith) h))))
    (cases_eq n 0)

-- what is written of a number is read as that number
pub number_back : (most n : ℕ) → most < 2 ^ 64 → n ≤ most → number_to most (decimal n) ≡ Some n
number_back most n room h =
    let small : n < 2 ^ 64 = omega arith in
    let value : read_on 0 (decimal n) ≡ n = digits_value-decimal own n small in
    let all = digits n small in
    let some = decimal_nonempty n small in
    let clear = no_zero n small in
    grind (arith, nat_tests)

-- a field that is read as a number is what is written of it
pub number_is : (most : ℕ) (w : List ℕ) (n : ℕ) → most < 2 ^ 64 → number_to most w ≡ Some n → (w ≡ decimal n) × (n ≤ most)
number_is most w n room e =
    let value : read_on 0 w ≡ n = grind (arith, nat_tests) in
    let high : n ≤ most = grind (arith, nat_tests) in
    let all : all_ascii_digits w ≡ true = grind (arith, nat_tests) in
    let some : 0 < length w = grind (arith, nat_tests) in
    let single : get_or w 0 0 ≡ 48 → length w ≡ 1 = λ z. grind (arith, nat_tests) in
    (sym (decimal-digits_value own w all some single (omega arith)) ∙ ap decimal value, high)
