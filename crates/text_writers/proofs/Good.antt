-- Fields that are fit for a text, and lines of them.
use Rattle.std.proofs.Common.{◌≡◌, ℕ, ◌+◌, ◌*◌, ◌^◌, ◌<◌, ◌≤◌, Bool, true, false, not, ◌&&◌, leb, List, [], ◌∷◌, length, decimal, refl, arith}
use Rattle.std.proofs.lemmas.Fmt.{length-decimal-le}
use Rattle.std.proofs.lemmas.List.{length-append}
use Rattle.std.proofs.lemmas.Bool.{and_from, not_from_false}
use Rattle.std.proofs.lemmas.Bool.Decides.{nat_tests}
use Rattle.fields.specs.Cuts.{fields_of, shaped}
use Rattle.fields.specs.States.{is_none}
use Rattle.text_writers.specs.Writing.{line_end, line_text}
use Rattle.text_writers.proofs.Cut.{clean, all_clean, Plain, more, between, fields_back}
use Rattle.text_writers.proofs.Numbers.{clean_decimal, some_decimal}

-- one byte at least and ten at most, with no space
pub record Good (w : List ℕ) : Type 0 where
  pub plain : clean w ≡ true
  pub some : is_none w ≡ false
  pub short : length w ≤ 10

abbrev is_good : List ℕ → Bool
is_good w = clean w && (not (is_none w) && leb (length w) 10)

-- a field that is written out
pub literal : (w : List ℕ) → is_good w ≡ true → Good w
literal w h = record { plain = grind (arith, nat_tests); some = grind (arith, nat_tests); short = grind (arith, nat_tests) }

pub data AllGood : List (List ℕ) → Type 0 where
  end : AllGood []
  and : (w : List ℕ) (ws : List (List ℕ)) → Good w → AllGood ws → AllGood (w ∷ ws)

pub good_decimal : (n : ℕ) → n < 2 ^ 32 → Good (decimal n)
good_decimal n h = record { plain = clean_decimal n (omega arith); some = some_decimal n (omega arith); short = length-decimal-le 10 n (omega arith) (omega arith) (omega arith) }

pub good_clean : (ws : List (List ℕ)) → AllGood ws → all_clean ws ≡ true
good_clean _ end = refl
good_clean _ (and w ws g gs) = and_from _ _ g.plain (good_clean _ gs)

pub good_shaped : (ws : List (List ℕ)) → AllGood ws → shaped (length ws) ws ≡ true
good_shaped _ end = refl
good_shaped _ (and w ws g gs) = and_from _ _ (not_from_false _ g.some) (good_shaped _ gs)

end_length : (ws : List (List ℕ)) → AllGood ws → length (line_end ws) ≤ 1 + 11 * length ws
end_length _ end = omega arith
end_length _ (and w ws g gs) = omega (arith, g.short, end_length ws gs, length-append w (line_end ws))

pub line_length : (ws : List (List ℕ)) → AllGood ws → length (line_text ws) ≤ 1 + 11 * length ws
line_length _ end = omega arith
line_length _ (and w ws g gs) = omega (arith, g.short, end_length ws gs, length-append w (line_end ws))

pub good_fields : (ws : List (List ℕ)) → 0 < length ws → AllGood ws → fields_of (between ws) ≡ ws
good_fields _ h end = absurd (omega arith)
good_fields _ h (and w ws g gs) = fields_back w ws g.plain (good_clean ws gs)

pub good_plain : (ws : List (List ℕ)) (ls : List (List (List ℕ))) → 0 < length ws → AllGood ws → Plain ls → Plain (ws ∷ ls)
good_plain _ ls h end p = absurd (omega arith)
good_plain _ ls h (and w ws g gs) p = more w ws ls g.plain (good_clean ws gs) p
