-- A text that is read without fault is its lines joined again, and each line its fields.
use Rattle.std.proofs.Common.{◌≡◌, ℕ, Bool, true, cond, eqb, ltb, leb, List, [], ◌∷◌, ◌++◌, length, Some, None, Ok, Err, Option, Result, sym, refl, ap, ◌∙◌, arith}
use Rattle.std.specs.List.{prefix_len}
use Rattle.std.proofs.lemmas.List.{append_assoc}
use Rattle.std.proofs.lemmas.Bool.{cond-true, cond_both, eqb-true, eq-eqb}
use Rattle.std.proofs.lemmas.Bool.Decides.{nat_tests}
use Rattle.fields.specs.Bytes.{allowed, ended, line_at, wrong_line}
use Rattle.fields.specs.Cuts.{lines_on, lines_of, fields_of, spaced}
use Rattle.texts.specs.declared.fault.Told.{Told}
use Rattle.texts.specs.Lines.{Parts, parts_by, parts_of}
use Rattle.texts.specs.Outcomes.{Outcome, goes_on}
use Rattle.fields.proofs.Wholeness.{whole}
use Rattle.text_writers.specs.Writing.{line_end, line_text}
use Rattle.text_writers.proofs.Cut.{last, last_append}
use Rattle.text_writers.proofs.Variants.{ok_same}

-- the lines, each ended by a byte 10
abbrev pub joined_lines : List (List ℕ) → List ℕ
joined_lines [] = []
joined_lines (l ∷ ls) = l ++ (10 ∷ joined_lines ls)

lines_whole : (w : List ℕ) (b : ℕ) (bs : List ℕ) → last (b ∷ bs) ≡ 10 → joined_lines (lines_on w (b ∷ bs)) ≡ w ++ b ∷ bs
lines_whole w b [] h = ap joined_lines (cond-true (eqb b 10) _ _ (eq-eqb b 10 h)) ∙ ap (λ x. w ++ x ∷ []) (sym h)
lines_whole w b (c ∷ cs) h =
    let next : last (c ∷ cs) ≡ 10 = sym (last_append (b ∷ []) (c ∷ cs) (omega arith)) ∙ h in
    cond_both (eqb b 10) _ _ (λ ls. joined_lines ls ≡ w ++ b ∷ c ∷ cs)
    (λ is. ap (λ t. w ++ (10 ∷ t)) (lines_whole [] c cs next) ∙ ap (λ x. w ++ x ∷ c ∷ cs) (sym (eqb-true b 10 is)))
    (λ off. lines_whole (w ++ b ∷ []) c cs next ∙ append_assoc w (b ∷ []) (c ∷ cs))

text_whole : (text : List ℕ) → ended text ≡ true → joined_lines (lines_of text) ≡ text
text_whole [] h = absurd (cc)
text_whole (b ∷ bs) h = lines_whole [] b bs (eqb-true (last (b ∷ bs)) 10 h)

right_ended : (a e : Bool) (m n : ℕ) → cond a (Some m) (cond e None (Some n)) ≡ None → e ≡ true
right_ended a e m n h = grind (arith, nat_tests)

-- a text in right form is its names line and its lines of values
pub record Split (text : List ℕ) (p : Parts) : Type 0 where
  pub right : wrong_line text ≡ None
  pub lines : lines_of text ≡ p.names ∷ p.values
  pub all : text ≡ joined_lines (p.names ∷ p.values)

split_by : (text : List ℕ) (o : Option ℕ) (ls : List (List ℕ)) (p : Parts) → wrong_line text ≡ o → lines_of text ≡ ls → parts_by o ls ≡ Ok p → Split text p
split_by text (Some n) ls p ho hl h = absurd (cc)
split_by text None [] p ho hl h = absurd (cc)
split_by text None (l ∷ ls) p ho hl h =
    let same : record { names = l; values = ls } ≡ p = ok_same h in
    let lines : lines_of text ≡ p.names ∷ p.values = hl ∙ ap (λ (q : Parts). q.names ∷ q.values) same in
    let end = right_ended (ltb (prefix_len allowed text) (length text)) (ended text) (line_at text (prefix_len allowed text)) (line_at text (length text)) ho in
    record { right = ho; lines = lines; all = sym (text_whole text end) ∙ ap joined_lines lines }

long_enough : (b : Bool) (r : Result Parts Told) (t : Told) (p : Parts) → cond b r (Err t) ≡ Ok p → r ≡ Ok p
long_enough b r t p h = grind (arith, nat_tests)

pub split : (text : List ℕ) (p : Parts) → parts_of text ≡ Ok p → Split text p
split text p h = split_by text (wrong_line text) (lines_of text) p refl refl (long_enough (leb (length text) 16384) _ _ p h)

-- a line is its fields with one space between

spaced_end : (ws : List (List ℕ)) → spaced ws ++ 10 ∷ [] ≡ line_end ws
spaced_end [] = refl
spaced_end (w ∷ ws) = ap (λ t. 32 ∷ t) (append_assoc w (spaced ws) (10 ∷ []) ∙ ap (λ t. w ++ t) (spaced_end ws))

tail_same : {a b : ℕ} {xs ys : List ℕ} → a ∷ xs ≡ b ∷ ys → xs ≡ ys
tail_same e = cc

line_by : (l : List ℕ) (fs : List (List ℕ)) → spaced fs ≡ 32 ∷ l → l ++ 10 ∷ [] ≡ line_text fs
line_by l [] h = absurd (cc)
line_by l (w ∷ ws) h = ap (λ t. t ++ 10 ∷ []) (sym (tail_same h)) ∙ append_assoc w (spaced ws) (10 ∷ []) ∙ ap (λ t. w ++ t) (spaced_end ws)

pub line_is : (l : List ℕ) (rest : List ℕ) → l ++ (10 ∷ rest) ≡ line_text (fields_of l) ++ rest
line_is l rest = sym (append_assoc l (10 ∷ []) rest) ∙ ap (λ t. t ++ rest) (line_by l (fields_of l) (whole l).all)

-- a reading that goes on without fault

pub record Went {X : Type 0} (o : Outcome X) (f : List X → Outcome X) : Type 0 where
  pub here : o.refused ≡ None
  pub then : goes_on o f ≡ f o.entries

went_by : {X : Type 0} (es : List X) (r : Option Told) (f : List X → Outcome X) → (goes_on (record { entries = es; refused = r }) f).refused ≡ None → Went (record { entries = es; refused = r }) f
went_by es None f h = record { here = refl; then = refl }
went_by es (Some t) f h = absurd (cc)

pub went : {X : Type 0} (o : Outcome X) (f : List X → Outcome X) → (goes_on o f).refused ≡ None → Went o f
went o f h = went_by o.entries o.refused f h
