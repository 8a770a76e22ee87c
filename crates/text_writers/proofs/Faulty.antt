-- Where the refusal of one line stands.
use Rattle.std.proofs.Common.{◌≡◌, ℕ, ◌+◌, ◌^◌, ◌≤◌, Bool, true, false, cond, ◌&&◌, ltb, leb, List, [], ◌∷◌, length, Some, None, Ok, Err, Option, Result, sym, refl, ap, ◌∙◌, subst, arith, lit≤}
use Rattle.std.proofs.lemmas.Bool.{and_parts, ltb-true}
use Rattle.mtl.specs.Questions.{Question, first_no, answer}
use Rattle.mtl.specs.Kinds.{kind_at, has_window, has_right}
use Rattle.mtl.specs.Lines.{Rules}
use Rattle.mtl.specs.Entering.{enter_questions, line_questions}
use Rattle.mtl.specs.Rows.{last_time}
use Rattle.mtl.specs.declared.line.Fields.{Fields}
use Rattle.mtl.specs.declared.line.Kind.{Kind}
use Rattle.mtl.specs.declared.row.Row.{Row}
use Rattle.fields.specs.Cuts.{shaped}
use Rattle.texts.specs.Faults.{told, in_text, in_table, in_log}
use Rattle.texts.specs.Forms.{Spot, spot, fault_at, or_fault, in_form, and_then, used_in, end_in, next_in, letter_in, rest_by, formed}
use Rattle.texts.specs.Logs.{read_row, adds_if, by_log}
use Rattle.texts.specs.Marks.{time_in, bit_in, marks_on, row_in}
use Rattle.texts.specs.Outcomes.{refuses}
use Rattle.texts.specs.Rules.{read_rule, enters_if, by_table}
use Rattle.texts.specs.declared.entry.Entry.{Entry}
use Rattle.texts.specs.declared.fault.TextFault.{TextFault}
use Rattle.texts.specs.declared.fault.TextFault.TheVariants.{WrongForm}
use Rattle.texts.specs.declared.fault.Told.{Told}
use Rattle.fields.proofs.Shapes.{shaped_length}
use Rattle.text_writers.proofs.Said.{of_six}
use Rattle.text_writers.proofs.Variants.{some_same, err_same}

-- the refusal tells line n, and by question 31 alone one of its m fields
pub record At (n m : ℕ) (t : Told) : Type 0 where
  pub line : t.line ≡ n
  pub form : t.number ≡ 31 → (1 ≤ t.field) × (t.field ≤ m)
  pub other : (t.number ≡ 31 → ⊥) → t.field ≡ 0

at_other : (n m q : ℕ) (t u : Told) → u.number ≡ q → u.line ≡ n → u.field ≡ 0 → (q ≡ 31 → ⊥) → u ≡ t → At n m t
at_other n m q t u number line field off same = subst (At n m) same (record { line = line; form = λ is. absurd (off (sym number ∙ is)); other = λ _. field })

-- a field of the line is not in form
record InLine (n m : ℕ) (e : TextFault) : Type 0 where
  field : ℕ
  is : e ≡ WrongForm n field
  low : 1 ≤ field
  high : field ≤ m

wrong : (n m k : ℕ) → 1 ≤ k → k ≤ m → InLine n m (WrongForm n k)
wrong n m k low high = record { field = k; is = refl; low = low; high = high }

at_form : (n m : ℕ) (e : TextFault) (t : Told) → InLine n m e → told e ≡ t → At n m t
at_form n m e t w same =
    subst (At n m) (ap told (sym w.is) ∙ same)
    (record { line = refl; form = λ _. (w.low, w.high); other = λ off. absurd (off refl) })

-- the first fault of a chain
faults : {X Y : Type 0} (P : TextFault → Type 0) (r : Result X TextFault) (f : X → Result Y TextFault) → ((e : TextFault) → r ≡ Err e → P e) → ((x : X) (e : TextFault) → f x ≡ Err e → P e) → (e : TextFault) → and_then r f ≡ Err e → P e
faults P (Ok x) f here on e h = on x e h
faults P (Err d) f here on e h = subst P (err_same h) (here d refl)

out_of_form : {X : Type 0} (P : TextFault → Type 0) (p : Spot) (o : Option X) → P (fault_at p) → (e : TextFault) → or_fault p o ≡ Err e → P e
out_of_form P p None h e is = subst P (err_same is) h
out_of_form P p (Some x) h e is = absurd (cc)

in_form_lem : {X : Type 0} (n m k : ℕ) (w : List ℕ) (o : Option X) → 1 ≤ k → k ≤ m → (e : TextFault) → or_fault (spot n k w) o ≡ Err e → InLine n m e
in_form_lem n m k w o low high = out_of_form (InLine n m) (spot n k w) o (wrong n m k low high)

ok_err : {A B : Type 0} {P : Type 0} (a : A) (e : B) → ◌≡◌ {A = Result A B} (Ok a) (Err e) → P
ok_err a e h = absurd (cc)

-- a rules line

rest_faults : (n c : ℕ) (o : Option Kind) (d e f g : List ℕ) (x : TextFault) → rest_by c o (spot n 3 d) (spot n 4 e) (spot n 5 f) (spot n 6 g) ≡ Err x → InLine n 6 x
rest_faults n c None d e f g x h = ok_err _ x h
rest_faults n c (Some k) d e f g x h =
    faults (InLine n 6) (in_form (used_in (has_window k)) (spot n 3 d)) _ (in_form_lem n 6 3 d _ (lit≤ tt) (lit≤ tt)) (λ fr.
    faults (InLine n 6) (in_form (end_in (has_window k)) (spot n 4 e)) _ (in_form_lem n 6 4 e _ (lit≤ tt) (lit≤ tt)) (λ to.
    faults (InLine n 6) (in_form (used_in true) (spot n 5 f)) _ (in_form_lem n 6 5 f _ (lit≤ tt) (lit≤ tt)) (λ l.
    faults (InLine n 6) (in_form (used_in (has_right k)) (spot n 6 g)) _ (in_form_lem n 6 6 g _ (lit≤ tt) (lit≤ tt)) (λ r y is. ok_err _ y is)))) x h

formed_faults : (n next : ℕ) (a b d e f g : List ℕ) (x : TextFault) → formed n next (a ∷ b ∷ d ∷ e ∷ f ∷ g ∷ []) ≡ Err x → InLine n 6 x
formed_faults n next a b d e f g x h =
    faults (InLine n 6) (in_form (next_in next) (spot n 1 a)) _ (in_form_lem n 6 1 a _ (lit≤ tt) (lit≤ tt)) (λ _.
    faults (InLine n 6) (in_form letter_in (spot n 2 b)) _ (in_form_lem n 6 2 b _ (lit≤ tt) (lit≤ tt)) (λ c y. rest_faults n c (kind_at c) d e f g y)) x h

-- the numbers of a table's and a log's own questions are others
abbrev below31 : List Question → Bool
below31 [] = true
below31 (q ∷ qs) = ltb q.0 31 && below31 qs

no_below : (qs : List Question) (q : ℕ) → below31 qs ≡ true → first_no qs ≡ Some q → q ≡ 31 → ⊥
no_below [] q h e = absurd (cc)
no_below (p ∷ ps) q h e = go p.1 (no_below ps q (and_parts (ltb p.0 31) (below31 ps) h).1) e
  where
    go : (b : Bool) → (first_no ps ≡ Some q → q ≡ 31 → ⊥) → cond b (first_no ps) (Some p.0) ≡ Some q → q ≡ 31 → ⊥
    go true on e is = on e is
    go false on e is = let same : p.0 ≡ q = some_same e in omega (arith, same, is, ltb-true p.0 31 (and_parts (ltb p.0 31) (below31 ps) h).0)

line_below : (n : ℕ) (o : Option Kind) (f : Fields) (b : Bool) → below31 ((1, b) ∷ line_questions n o f) ≡ true
line_below n None f b = refl
line_below n (Some k) f b = refl

table_at : (n m : ℕ) (qs : List Question) (t : Told) → below31 qs ≡ true → by_table n (answer (first_no qs) tt) ≡ Some t → At n m t
table_at n m qs t below h = go (first_no qs) refl h
  where
    go : (o : Option ℕ) → first_no qs ≡ o → by_table n (answer o tt) ≡ Some t → At n m t
    go None is h = absurd (cc)
    go (Some q) is h = at_other n m q t (in_table q n) refl refl refl (no_below qs q below is) (some_same h)

log_at : (n m : ℕ) (qs : List Question) (t : Told) → below31 qs ≡ true → by_log n (answer (first_no qs) tt) ≡ Some t → At n m t
log_at n m qs t below h = go (first_no qs) refl h
  where
    go : (o : Option ℕ) → first_no qs ≡ o → by_log n (answer o tt) ≡ Some t → At n m t
    go None is h = absurd (cc)
    go (Some q) is h = at_other n m q t (in_log q n) refl refl refl (no_below qs q below is) (some_same h)

entered_at : (n m : ℕ) (T : Rules) (r : Result Entry TextFault) (t : Told) → ((e : TextFault) → r ≡ Err e → InLine n m e) → (enters_if n T r).refused ≡ Some t → At n m t
entered_at n m T (Ok e) t form h = table_at n m (enter_questions T e.letter e.fields) t (line_below (length T) (kind_at e.letter) e.fields (ltb (length T) 32)) h
entered_at n m T (Err e) t form h = at_form n m e t (form e refl) (some_same h)

fields_at : (n next : ℕ) (fs : List (List ℕ)) → length fs ≡ 6 → (e : TextFault) → formed n next fs ≡ Err e → InLine n (length fs) e
fields_at n next = of_six (λ fs. (e : TextFault) → formed n next fs ≡ Err e → InLine n (length fs) e) (formed_faults n next)

pub rule_at : (n : ℕ) (T : Rules) (fs : List (List ℕ)) (t : Told) → (read_rule n T fs).refused ≡ Some t → At n (length fs) t
rule_at n T fs t h = go (shaped 6 fs) refl h
  where
    go : (b : Bool) → shaped 6 fs ≡ b → (cond b (enters_if n T (formed n (length T) fs)) (refuses T (in_text 30 n 0))).refused ≡ Some t → At n (length fs) t
    go true s h = entered_at n (length fs) T (formed n (length T) fs) t (fields_at n (length T) fs (shaped_length 6 fs s)) h
    go false s h = at_other n (length fs) 30 t (in_text 30 n 0) refl refl refl (λ e. omega arith) (some_same h)

-- a row

marks_faults : (n m k acc : ℕ) (ws : List (List ℕ)) → k + 1 + length ws ≤ m → (e : TextFault) → marks_on n k acc ws ≡ Err e → InLine n m e
marks_faults n m k acc [] h e is = ok_err _ e is
marks_faults n m k acc (w ∷ ws) h e is =
    faults (InLine n m) (in_form bit_in (spot n (k + 2) w)) _ (in_form_lem n m (k + 2) w _ (omega arith) (omega arith)) (λ b. marks_faults n m (k + 1) (cond b (2 ^ k + acc) acc) ws (omega arith)) e is

row_faults : (n : ℕ) (fs : List (List ℕ)) → 1 ≤ length fs → (e : TextFault) → row_in n fs ≡ Err e → InLine n (length fs) e
row_faults n [] h e is = absurd (omega arith)
row_faults n (w ∷ ws) h e is =
    faults (InLine n (length (w ∷ ws))) (in_form time_in (spot n 1 w)) _ (in_form_lem n (length (w ∷ ws)) 1 w _ (omega arith) (omega arith)) (λ t.
    faults (InLine n (length (w ∷ ws))) (marks_on n 0 0 ws) _ (marks_faults n (length (w ∷ ws)) 0 0 ws (omega arith)) (λ m y is. ok_err _ y is)) e is

added_at : (room : List Row → Row → Bool) (n m : ℕ) (R : List Row) (r : Result Row TextFault) (t : Told) → ((e : TextFault) → r ≡ Err e → InLine n m e) → (adds_if room n R r).refused ≡ Some t → At n m t
added_at room n m R (Ok x) t form h = log_at n m ((7, leb (last_time R) x.time) ∷ (8, room R x) ∷ []) t refl h
added_at room n m R (Err e) t form h = at_form n m e t (form e refl) (some_same h)

pub row_at : (room : List Row → Row → Bool) (count : ℕ) → 1 ≤ count → (n : ℕ) (R : List Row) (fs : List (List ℕ)) (t : Told) → (read_row room count n R fs).refused ≡ Some t → At n (length fs) t
row_at room count one n R fs t h = go (shaped count fs) refl h
  where
    go : (b : Bool) → shaped count fs ≡ b → (cond b (adds_if room n R (row_in n fs)) (refuses R (in_text 30 n 0))).refused ≡ Some t → At n (length fs) t
    go true s h = added_at room n (length fs) R (row_in n fs) t (row_faults n fs (omega (arith, shaped_length count fs s))) h
    go false s h = at_other n (length fs) 30 t (in_text 30 n 0) refl refl refl (λ e. omega arith) (some_same h)
