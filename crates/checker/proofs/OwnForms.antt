-- Each rule as the code has it, by its number, is the form of that number in the rules' table.
use Rattle.std.proofs.Common.{◌≡◌, ℕ, ◌+◌, ◌-◌, ◌<◌, ◌≤◌, Bool, true, false, cond, not, ◌&&◌, eqb, ltb, leb, List, [], ◌∷◌, length, Some, None, Option, is_some, sym, refl, ap, ◌∙◌, subst, inl, inr, arith}
use Rattle.std.proofs.Math.Bool.{and_assoc, and-true}
use Rattle.std.proofs.lemmas.Bool.{cases_lt, eqb-true, eqb-false, lt-leb, and_left, and_right}
use Rattle.mtl.specs.declared.row.Row.{Row}
use Rattle.mtl.specs.declared.line.Window.{Window}
use Rattle.mtl.specs.declared.line.Line.{Line}
use Rattle.mtl.specs.declared.line.Line.TheVariants.{Mark as mark, Not as neg, And as and, Or as or, Previous as previous, Next as next, Since as since, Until as until}
use Rattle.mtl.specs.Checking.{form_at}
use Rattle.mtl.specs.Forms.{Form, forms}
use Rattle.mtl.specs.Ranges.{keep}
use Rattle.mtl.specs.Rows.{time_at}
use Rattle.mtl.specs.Windows.{inside, wide}
use Rattle.mtl.specs.Lists.{AllOf}
use Rattle.checker.specs.declared.parts.Parts.{Parts}
use Rattle.checker.specs.declared.view.Side.TheVariants.{Before, After}
use Rattle.checker.specs.Parts.{parts_of}
use Rattle.proof_rules.specs.Rule.{within, of_kind, gap_inside, gap_short, gap_long}
use Rattle.checker.specs.Children.{rows_are, chosen}
use Rattle.checker.proofs.Alike.{inside_on, any_time, from_on, range_end}
use Rattle.checker.proofs.Coded.{Coded, alone, gap_lem, first_row_lem, no_child, one_child, two_children, led_form, any_form}

at : {R : List Row} {i : ℕ} {p : Parts} {f : Form} {n m : ℕ} → Coded R i p n f → n ≡ m → Coded R i p m f
at {R = R} {i = i} {p = p} {f = f} h e = subst (λ x. Coded R i p x f) e h

-- what `AllOf` asks of a list of so many
two : {A B : Type 0} → A → B → A × (B × Unit {0})
two a b = (a, (b, tt))

three : {A B C : Type 0} → A → B → C → A × (B × (C × Unit {0}))
three a b c = (a, two b c)

four : {A B C D : Type 0} → A → B → C → D → A × (B × (C × (D × Unit {0})))
four a b c d = (a, three b c d)

abbrev Own : List Row → ℕ → Line → ℕ → Form → Type 0
Own R i l n f = f.number ≡ n → Coded R i (parts_of l) n f

module _ (R : List Row) (i n : ℕ) where
  own_mark : (m : ℕ) → AllOf (Own R i (mark m) n) (forms R i (mark m))
  unfolding forms
  own_mark m = two
      (at (no_child refl refl (λ c. refl) (λ cs. refl) (λ cs. refl)))
      (at (no_child refl refl (λ c. refl) (λ cs. refl) (λ cs. refl)))

  own_not : (l : ℕ) → AllOf (Own R i (neg l) n) (forms R i (neg l))
  unfolding forms
  own_not l = two
      (at (one_child refl refl (λ c. refl) (λ cs. refl) refl (λ cs. refl)))
      (at (one_child refl refl (λ c. refl) (λ cs. refl) refl (λ cs. refl)))

  own_and : (l r : ℕ) → AllOf (Own R i (and l r) n) (forms R i (and l r))
  unfolding forms
  own_and l r = three
      (at (two_children refl refl (λ c. refl) (λ cs. refl) refl (λ cs. refl)))
      (at (one_child refl refl (λ c. refl) (λ cs. refl) refl (λ cs. refl)))
      (at (one_child refl refl (λ c. refl) (λ cs. refl) refl (λ cs. refl)))

  own_or : (l r : ℕ) → AllOf (Own R i (or l r) n) (forms R i (or l r))
  unfolding forms
  own_or l r = three
      (at (one_child refl refl (λ c. refl) (λ cs. refl) refl (λ cs. refl)))
      (at (one_child refl refl (λ c. refl) (λ cs. refl) refl (λ cs. refl)))
      (at (two_children refl refl (λ c. refl) (λ cs. refl) refl (λ cs. refl)))

  own_previous : (w : Window) (l : ℕ) → AllOf (Own R i (previous w l) n) (forms R i (previous w l))
  unfolding forms
  own_previous w l = (
    (at (one_child refl refl (λ c. refl) (λ cs. refl) (gap_lem (λ g. gap_inside (record { window = w; gap = g })) refl d b) (λ cs. refl))),
    four
        (at (one_child refl refl (λ c. refl) (λ cs. refl) (sym (and-true b) ∙ gap_lem is_some refl d b) (λ cs. refl)))
        (at (no_child refl refl (λ c. refl) (λ cs. refl) (λ cs. alone _ _ (gap_lem (λ g. gap_short (record { window = w; gap = g })) refl d b))))
        (at (no_child refl refl (λ c. refl) (λ cs. refl) (λ cs. alone _ _ (gap_lem (λ g. gap_long (record { window = w; gap = g })) refl d b))))
        (at (no_child refl refl (λ c. refl) (λ cs. refl) (λ cs. alone _ _ (first_row_lem i ∙ ap not (sym (and-true b) ∙ gap_lem is_some refl d b))))),
  )
    where
      b : Bool
      b = ltb 0 i

      d : ℕ
      d = time_at R i - time_at R (i - 1)

  own_next : (w : Window) (l : ℕ) → AllOf (Own R i (next w l) n) (forms R i (next w l))
  unfolding forms
  own_next w l = four
      (at (one_child refl refl (λ c. refl) (λ cs. refl) (gap_lem (λ g. gap_inside (record { window = w; gap = g })) refl d b) (λ cs. refl)))
      (at (one_child refl refl (λ c. refl) (λ cs. refl) refl (λ cs. refl)))
      (at (no_child refl refl (λ c. refl) (λ cs. refl) (λ cs. alone _ _ (gap_lem (λ g. gap_short (record { window = w; gap = g })) refl d b))))
      (at (no_child refl refl (λ c. refl) (λ cs. refl) (λ cs. alone _ _ (gap_lem (λ g. gap_long (record { window = w; gap = g })) refl d b))))
    where
      b : Bool
      b = ltb (i + 1) (length R)

      d : ℕ
      d = time_at R (i + 1) - time_at R i

  own_since : (w : Window) (l r : ℕ) → AllOf (Own R i (since w l r) n) (forms R i (since w l r))
  unfolding forms
  own_since w l r = four
      (at (led_form refl refl (λ j. chosen R Before (wide 0) i (j + 1) (i + 1)) (λ c. refl) (λ cs. refl) (λ j. range_end (j + 1) i ∙ any_time R Before i (j + 1) (i + 1)) (λ c cs. refl)))
      (at (led_form refl refl (λ j. chosen R Before (wide w.from) i j (i + 1)) (λ c. refl) (λ cs. refl) (λ j. ap (keep (λ k. leb w.from (time_at R i - time_at R k))) (range_end j i) ∙ from_on R Before i j (i + 1) w.from) (λ c cs. ap (λ t. rows_are (chosen R Before (wide w.from) i c.row (i + 1)) cs && t) (and_assoc (leb 1 c.row) (leb c.row i) _))))
      (at (any_form refl refl (chosen R Before w i 0 (i + 1)) (λ c. refl) (λ cs. refl) (ap (keep (λ k. inside w (time_at R i - time_at R k))) (range_end 0 i) ∙ inside_on R Before i 0 (i + 1) w) (λ cs. refl)))
      (at (no_child refl refl (λ c. refl) (λ cs. refl) (λ cs. refl)))

  own_until : (w : Window) (l r : ℕ) → AllOf (Own R i (until w l r) n) (forms R i (until w l r))
  unfolding forms
  own_until w l r = three
      (at (led_form refl refl (λ j. chosen R After (wide 0) i i j) (λ c. refl) (λ cs. refl) (λ j. any_time R After i i j) (λ c cs. ap (λ t. rows_are (chosen R After (wide 0) i i c.row) cs && t) (and_assoc (leb i c.row) (ltb c.row (length R)) _))))
      (at (led_form refl refl (λ j. chosen R After (wide w.from) i i (j + 1)) (λ c. refl) (λ cs. refl) (λ j. ap (keep (λ k. leb w.from (time_at R k - time_at R i))) (range_end i j) ∙ from_on R After i i (j + 1) w.from) (λ c cs. ap (λ t. rows_are (chosen R After (wide w.from) i i (c.row + 1)) cs && t) (and_assoc (leb i c.row) (ltb c.row (length R)) _))))
      (at (any_form refl refl (chosen R After w i i (length R)) (λ c. refl) (λ cs. refl) (inside_on R After i i (length R) w) (λ cs. refl)))

  own : (l : Line) → AllOf (Own R i l n) (forms R i l)
  own (mark m) = own_mark m
  own (neg l) = own_not l
  own (and l r) = own_and l r
  own (or l r) = own_or l r
  own (previous w l) = own_previous w l
  own (next w l) = own_next w l
  own (since w l r) = own_since w l r
  own (until w l r) = own_until w l r

-- a rule of no form is of another kind

abbrev NoneOf : ℕ → List Form → Type 0
NoneOf n fs = AllOf (λ (f : Form). f.number ≡ n → ⊥) fs

outside : (a b n : ℕ) → (a ≤ n → n ≤ b → ⊥) → within a b n ≡ false
outside a b n h =
    elim (cases_lt n a) [ inl lt ↦ and_left (leb a n) (leb n b) (lt-leb a n lt) | inr le ↦ and_right (leb a n) (leb n b) (lt-leb n b (over le)) ]
  where
    over : a ≤ n → b < n
    over le = elim (cases_lt b n) [ inl lt ↦ lt | inr ge ↦ absurd (h le ge) ]

other : (R : List Row) (i n : ℕ) (l : Line) → NoneOf n (forms R i l) → of_kind (parts_of l).kind n ≡ false
unfolding forms
other R i n (mark m) h = outside 1 2 n (λ a b. omega (arith, h.0, h.1.0))
other R i n (neg l) h = outside 3 4 n (λ a b. omega (arith, h.0, h.1.0))
other R i n (and l r) h = outside 5 7 n (λ a b. omega (arith, h.0, h.1.0, h.1.1.0))
other R i n (or l r) h = outside 8 10 n (λ a b. omega (arith, h.0, h.1.0, h.1.1.0))
other R i n (previous w l) h = outside 11 15 n (λ a b. omega (arith, h.0, h.1.0, h.1.1.0, h.1.1.1.0, h.1.1.1.1.0))
other R i n (next w l) h = outside 16 19 n (λ a b. omega (arith, h.0, h.1.0, h.1.1.0, h.1.1.1.0))
other R i n (since w l r) h = outside 20 23 n (λ a b. omega (arith, h.0, h.1.0, h.1.1.0, h.1.1.1.0))
other R i n (until w l r) h = outside 24 26 n (λ a b. omega (arith, h.0, h.1.0, h.1.1.0))

-- what is looked up by a rule's number

abbrev pub Agrees : List Row → ℕ → Parts → ℕ → Option Form → Type 0
Agrees R i p n (Some f) = Coded R i p n f
Agrees R i p n None = of_kind p.kind n ≡ false

look : (R : List Row) (i : ℕ) (p : Parts) (n : ℕ) (fs : List Form) → AllOf (λ (f : Form). f.number ≡ n → Coded R i p n f) fs →
    (NoneOf n fs → of_kind p.kind n ≡ false) → Agrees R i p n (form_at fs n)
unfolding form_at
look R i p n [] a h = h tt
look R i p n (f ∷ fs) a h = go (eqb f.number n) (eqb-true f.number n) (λ e. look R i p n fs a.1 (λ k. h (eqb-false f.number n e, k)))
  where
    go : (b : Bool) → (b ≡ true → f.number ≡ n) → (b ≡ false → Agrees R i p n (form_at fs n)) → Agrees R i p n (cond b (Some f) (form_at fs n))
    go true e x = a.0 (e refl)
    go false e x = x refl

pub agreed : (R : List Row) (i n : ℕ) (l : Line) → Agrees R i (parts_of l) n (form_at (forms R i l) n)
agreed R i n l = look R i (parts_of l) n (forms R i l) (own R i n l) (other R i n l)
