-- What a lexer has left, byte by byte.
use Rattle.std.proofs.Common.{◌≡◌, ℕ, ◌+◌, ◌-◌, ◌<◌, ◌≤◌, true, not, ◌⊎◌, List, [], ◌∷◌, ◌++◌, length, get_or, take, drop, sym, refl, ap, ◌∙◌, subst, inl, inr, arith}
use Rattle.std.proofs.lemmas.List.{take_more, get_or-drop, length-drop, at_drop_more, at_drop_all}
use Rattle.std.proofs.lemmas.Bool.{cond-true, cond-false, eq-eqb, ne_eqb}
use Rattle.std.proofs.lemmas.Bool.Decides.{nat_tests}
use Rattle.fields.specs.States.{agrees, is_dash, is_none, is_word, past}
use Rattle.fields.specs.Cuts.{fields_on}
use Rattle.fields.specs.Lexing.{left_at, Open}
use Rattle.fields.specs.Tokens.{said_by, word, dash}
use Rattle.fields.specs.declared.state.State.{State}
use Rattle.fields.specs.declared.state.State.TheVariants.{Fresh, Inside, Dashed, Ended}

-- the field so far
abbrev pub sofar : List ℕ → ℕ → ℕ → List ℕ
sofar s from at = take (at - from) (drop from s)

pub left_open : (st : State) (from at : ℕ) (s : List ℕ) → Open st → left_at st from at s ≡ fields_on (sofar s from at) (drop at s)
left_open Fresh from at s o = refl
left_open Inside from at s o = refl
left_open Dashed from at s o = refl
left_open Ended from at s o = absurd o

-- the field's bytes, one more
pub grows : (s : List ℕ) (from at : ℕ) → from ≤ at → at < length s → sofar s from (at + 1) ≡ sofar s from at ++ get_or s at 0 ∷ []
grows s p at far in_s =
    let k : at + 1 - p ≡ at - p + 1 = omega arith in
    let there : p + (at - p) ≡ at = omega arith in
    let room : at - p < length (drop p s) = omega (arith, length-drop p s) in
    ap (λ n. take n (drop p s)) k ∙ take_more (drop p s) (at - p) 0 room ∙ ap (λ b. take (at - p) (drop p s) ++ b ∷ []) (get_or-drop p s (at - p) 0 ∙ ap (λ i. get_or s i 0) there)

sofar_none : (s : List ℕ) (at : ℕ) → sofar s at at ≡ []
sofar_none s at = let z : at - at ≡ 0 = omega arith in ap (λ n. take n (drop at s)) z

-- at a space the field is whole, and another begins
pub at_space : (st : State) (s : List ℕ) (from at : ℕ) → Open st → at < length s → get_or s at 0 ≡ 32 → left_at st from at s ≡ sofar s from at ∷ left_at Fresh (at + 1) (at + 1) s
at_space st s from at o h is =
    left_open st from at s o ∙ at_drop_more (fields_on (sofar s from at)) s at 0 h ∙ cond-true _ _ _ (eq-eqb _ 32 is)
    ∙ ap (λ w. sofar s from at ∷ fields_on w (drop (at + 1) s)) (sym (sofar_none s (at + 1)))

-- any other byte belongs to the field
pub at_byte : (st to : State) (s : List ℕ) (from at : ℕ) → Open st → Open to → from ≤ at → at < length s → (get_or s at 0 ≡ 32 → ⊥) → left_at to from (at + 1) s ≡ left_at st from at s
at_byte st to s from at o p far h off =
    left_open to from (at + 1) s p ∙ ap (λ w. fields_on w (drop (at + 1) s)) (grows s from at far h)
    ∙ sym (left_open st from at s o ∙ at_drop_more (fields_on (sofar s from at)) s at 0 h ∙ cond-false _ _ _ (ne_eqb _ 32 off))

-- at the line's end the field is whole, and there is no more
pub at_end : (st : State) (s : List ℕ) (from at : ℕ) → Open st → length s ≤ at → left_at st from at s ≡ sofar s from at ∷ []
at_end st s from at o h = left_open st from at s o ∙ at_drop_all (fields_on (sofar s from at)) s at h

-- what the state says of the field
pub word_by : (st : State) (w : List ℕ) → (st ≡ Fresh) ⊎ (st ≡ Inside) → agrees st w ≡ true → word w ≡ said_by w
word_by st [] o h = refl
word_by st (b ∷ []) (inl e) h = let z = ap (λ (x : State). agrees x (b ∷ [])) (sym e) ∙ h in grind (arith, nat_tests)
word_by st (b ∷ []) (inr e) h = let z = ap (λ (x : State). agrees x (b ∷ [])) (sym e) ∙ h in grind (arith, nat_tests)
word_by st (b ∷ c ∷ cs) o h = refl

pub dash_by : (w : List ℕ) → is_dash w ≡ true → dash ≡ said_by w
dash_by w h = sym (cond-true _ _ _ h)

pub now_dashed : (w : List ℕ) (b : ℕ) → is_none w ≡ true → b ≡ 45 → is_dash (w ++ b ∷ []) ≡ true
now_dashed [] b h is = eq-eqb b 45 is
now_dashed (c ∷ cs) b h is = absurd (cc)

-- not the one byte `-`
pub now_inside : (st : State) (w : List ℕ) (b : ℕ) → agrees st w ≡ true → Open st → (st ≡ Fresh → b ≡ 45 → ⊥) → is_word (w ++ b ∷ []) ≡ true
now_inside Fresh [] b h o off = ap not (ne_eqb b 45 (off refl))
now_inside Inside [] b h o off = absurd (cc)
now_inside Dashed [] b h o off = absurd (cc)
now_inside Ended [] b h o off = absurd o
now_inside st (c ∷ []) b h o off = refl
now_inside st (c ∷ d ∷ ds) b h o off = refl

pub past_open : (st : State) → Open st → past st ≡ 1
past_open Fresh o = refl
past_open Inside o = refl
past_open Dashed o = refl
past_open Ended o = absurd o

-- a byte that only lengthens the field, and makes it a word
pub record Ordinary (st : State) (b : ℕ) : Type 0 where
  pub is_open : Open st
  pub space : b ≡ 32 → ⊥
  pub minus : st ≡ Fresh → b ≡ 45 → ⊥

pub when_fresh : (st : State) (b : ℕ) → st ≡ Fresh → (b ≡ 32 → ⊥) → (b ≡ 45 → ⊥) → Ordinary st b
when_fresh st b e space minus = record { is_open = subst Open (sym e) tt; space = space; minus = λ _. minus }

pub when_inside : (st : State) (b : ℕ) → st ≡ Inside → (b ≡ 32 → ⊥) → Ordinary st b
when_inside st b e space = record { is_open = subst Open (sym e) tt; space = space; minus = λ f _. cc }

pub when_dashed : (st : State) (b : ℕ) → st ≡ Dashed → (b ≡ 32 → ⊥) → Ordinary st b
when_dashed st b e space = record { is_open = subst Open (sym e) tt; space = space; minus = λ f _. cc }
