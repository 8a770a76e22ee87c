-- Fields that are in form, and what they were written from.
use Rattle.std.proofs.Common.{◌≡◌, ℕ, Bool, true, false, cond, List, [], ◌∷◌, length, Some, None, Ok, Err, decimal, Option, Result, refl, ap, ◌∙◌, arith}
use Rattle.std.proofs.lemmas.Bool.{eqb-true}
use Rattle.std.proofs.lemmas.Bool.Decides.{nat_tests}
use Rattle.texts.specs.Forms.{Spot, used_in, end_in, some_number, next_in, same_number, letter_at, letter_in, or_fault, and_then}
use Rattle.texts.specs.Marks.{time_in, bit_at, bit_in}
use Rattle.fields.specs.Numbers.{number_at}
use Rattle.fields.specs.States.{is_dash}
use Rattle.fields.specs.Tokens.{Said, word, dash, said_by}
use Rattle.texts.specs.declared.fault.TextFault.{TextFault}
use Rattle.text_writers.specs.RuleTexts.{unused, end_field}
use Rattle.text_writers.specs.LogTexts.{bit_field}
use Rattle.text_writers.proofs.Numbers.{number_is}
use Rattle.text_writers.proofs.Variants.{some_same}

dash_is : (w : List ℕ) → is_dash w ≡ true → w ≡ unused
dash_is [] h = absurd (cc)
dash_is (b ∷ []) h = ap (λ x. x ∷ []) (eqb-true b 45 h)
dash_is (b ∷ c ∷ cs) h = absurd (cc)

-- a field is a dash or a word
by_said : (w : List ℕ) (P : Said → Type 0) (Q : Type 0) → (w ≡ unused → P dash → Q) → (P (word w) → Q) → P (said_by w) → Q
by_said w P Q d f p = go (is_dash w) refl p
  where
    go : (b : Bool) → is_dash w ≡ b → P (cond b dash (word w)) → Q
    go true e p = d (dash_is w e) p
    go false e p = f p

pub used_is : (w : List ℕ) (n : ℕ) → used_in true (said_by w) ≡ Some n → w ≡ decimal n
used_is w n = by_said w (λ t. used_in true t ≡ Some n) (w ≡ decimal n) (λ _ h. absurd (cc)) (λ h. (number_is 4294967295 w n (omega arith) h).0)

pub unused_is : (w : List ℕ) (n : ℕ) → used_in false (said_by w) ≡ Some n → w ≡ unused
unused_is w n = by_said w (λ t. used_in false t ≡ Some n) (w ≡ unused) (λ e _. e) (λ h. absurd (cc))

some_number_lem : (o : Option ℕ) (w : List ℕ) (to : Option ℕ) → number_at w ≡ o → some_number o ≡ Some to → w ≡ end_field to
some_number_lem None w to ho h = absurd (cc)
some_number_lem (Some n) w to ho h = (number_is 4294967295 w n (omega arith) ho).0 ∙ ap end_field (some_same h)

pub end_is : (w : List ℕ) (to : Option ℕ) → end_in true (said_by w) ≡ Some to → w ≡ end_field to
end_is w to = by_said w (λ t. end_in true t ≡ Some to) (w ≡ end_field to) (λ e h. e ∙ ap end_field (some_same h)) (λ h. some_number_lem (number_at w) w to refl h)

pub no_end_is : (w : List ℕ) (to : Option ℕ) → end_in false (said_by w) ≡ Some to → w ≡ unused
no_end_is w to = by_said w (λ t. end_in false t ≡ Some to) (w ≡ unused) (λ e _. e) (λ h. absurd (cc))

same_number_lem : (n m : ℕ) (o : Option ℕ) → same_number n o ≡ Some m → o ≡ Some n
same_number_lem n m None h = absurd (cc)
same_number_lem n m (Some k) h = grind (arith, nat_tests)

pub next_is : (w : List ℕ) (n m : ℕ) → next_in n (said_by w) ≡ Some m → w ≡ decimal n
next_is w n m h = used_is w n (same_number_lem n m (used_in true (said_by w)) h)

letter_at_lem : (w : List ℕ) (c : ℕ) → letter_at w ≡ Some c → w ≡ c ∷ []
letter_at_lem [] c h = absurd (cc)
letter_at_lem (b ∷ []) c h = grind (arith, nat_tests)
letter_at_lem (b ∷ d ∷ ds) c h = absurd (cc)

pub letter_is : (w : List ℕ) (c : ℕ) → letter_in (said_by w) ≡ Some c → w ≡ c ∷ []
letter_is w c = by_said w (λ t. letter_in t ≡ Some c) (w ≡ c ∷ []) (λ _ h. absurd (cc)) (λ h. letter_at_lem w c h)

pub time_is : (w : List ℕ) (t : ℕ) → time_in (said_by w) ≡ Some t → w ≡ decimal t
time_is w t = by_said w (λ s. time_in s ≡ Some t) (w ≡ decimal t) (λ _ h. absurd (cc)) (λ h. (number_is 4294967295 w t (omega arith) h).0)

bit_at_lem : (w : List ℕ) (b : Bool) → bit_at w ≡ Some b → w ≡ bit_field b
bit_at_lem [] b h = absurd (cc)
bit_at_lem (c ∷ []) b h = grind (arith, nat_tests)
bit_at_lem (c ∷ d ∷ ds) b h = absurd (cc)

pub bit_is : (w : List ℕ) (b : Bool) → bit_in (said_by w) ≡ Some b → w ≡ bit_field b
bit_is w b = by_said w (λ t. bit_in t ≡ Some b) (w ≡ bit_field b) (λ _ h. absurd (cc)) (λ h. bit_at_lem w b h)

-- a chain that ends well has gone through
pub record Through {X Y : Type 0} (r : Result X TextFault) (f : X → Result Y TextFault) (y : Y) : Type 0 where
  pub value : X
  pub is : r ≡ Ok value
  pub rest : f value ≡ Ok y

pub through : {X Y : Type 0} (r : Result X TextFault) (f : X → Result Y TextFault) (y : Y) → and_then r f ≡ Ok y → Through r f y
through (Ok x) f y h = record { value = x; is = refl; rest = h }
through (Err e) f y h = absurd (cc)

pub in_form_lem : {X : Type 0} (p : Spot) (o : Option X) (x : X) → or_fault p o ≡ Ok x → o ≡ Some x
in_form_lem p None x h = absurd (cc)
in_form_lem p (Some y) x h = cc

-- what holds of any six fields holds of a line that has six
pub of_six : (P : List (List ℕ) → Type 0) → ((a b d e f g : List ℕ) → P (a ∷ b ∷ d ∷ e ∷ f ∷ g ∷ [])) → (fs : List (List ℕ)) → length fs ≡ 6 → P fs
of_six P six (a ∷ b ∷ d ∷ e ∷ f ∷ g ∷ []) l = six a b d e f g
of_six P six [] l = absurd (omega arith)
of_six P six (a ∷ []) l = absurd (omega arith)
of_six P six (a ∷ b ∷ []) l = absurd (omega arith)
of_six P six (a ∷ b ∷ d ∷ []) l = absurd (omega arith)
of_six P six (a ∷ b ∷ d ∷ e ∷ []) l = absurd (omega arith)
of_six P six (a ∷ b ∷ d ∷ e ∷ f ∷ []) l = absurd (omega arith)
of_six P six (a ∷ b ∷ d ∷ e ∷ f ∷ g ∷ j ∷ js) l = absurd (omega arith)
