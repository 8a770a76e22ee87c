-- One node: from what the code has found so far to the question at which it stops, or to what is then waiting.
use Rattle.std.proofs.Common.{◌≡◌, ℕ, ◌-◌, ◌<◌, ◌≤◌, Bool, true, false, cond, ◌&&◌, ltb, leb, List, [], ◌∷◌, ◌++◌, length, take, drop, Some, None, Option, sym, refl, ap, ◌∙◌, subst, arith, length-drop, take_all}
use Rattle.std.proofs.lemmas.Bool.{both_ways, lt-ltb, le-ltb, le-leb, lt-leb, and_from, and_left, and_right}
use Rattle.mtl.specs.declared.row.Row.{Row}
use Rattle.mtl.specs.declared.line.Line.{Line}
use Rattle.mtl.specs.declared.ruling.Claim.{Claim}
use Rattle.mtl.specs.declared.ruling.Node.{Node}
use Rattle.mtl.specs.declared.ruling.Ruling.{Ruling}
use Rattle.mtl.specs.Claims.{claim, first_row}
use Rattle.mtl.specs.Checking.{form_at, count_fits, lines_fit, same_rows, known, form_or, Went, stops, goes, went, node_by, node_step}
use Rattle.mtl.specs.Forms.{Form, forms}
use Rattle.mtl.specs.Lines.{Rules, line_at, line_in}
use Rattle.mtl.specs.Questions.{first_no}
use Rattle.checker.specs.declared.parts.Parts.{Parts}
use Rattle.proof_rules.specs.declared.standing.Standing.{Standing}
use Rattle.proof_rules.specs.declared.standing.Standing.TheVariants.{OtherKind, WrongCount, OutsideInterval, Fits}
use Rattle.checker.specs.Parts.{parts_of, interval_of}
use Rattle.proof_rules.specs.Rule.{of_kind, counted, timed, standing, ruled}
use Rattle.checker.specs.Children.{lines_shown}
use Rattle.checker.specs.Placed.{placed}
use Rattle.checker.proofs.Coded.{Coded}
use Rattle.checker.proofs.OwnForms.{Agrees, agreed}

-- a node's step by the answers to its six questions
abbrev pub by_six : Bool → Bool → Bool → Bool → Bool → Bool → List Claim → Went
by_six a b c d e f t = went (first_no ((14, a) ∷ (15, b) ∷ (16, c) ∷ (17, d) ∷ (18, e) ∷ (19, f) ∷ [])) t

-- the children that a node takes, questions 17 to 19 of its form, and what is waiting after it
abbrev pub kids_of : List Claim → Node → List Claim
kids_of s d = drop (length s - d.count) s

-- the same, as the code cuts them off
abbrev cut_of : List Claim → Node → List Claim
cut_of s d = take (length s - (length s - d.count)) (kids_of s d)

abbrev pub waits : List Claim → Node → Form → Bool
waits s d f = count_fits f.shape d.count && leb d.count (length s)

abbrev pub shows : List Claim → Node → Form → Bool
shows s d f = lines_fit f.shape (kids_of s d)

abbrev pub met : List Claim → Node → Form → Bool
met s d f = same_rows (f.kids (first_row (kids_of s d))) (kids_of s d) && f.meets (first_row (kids_of s d))

abbrev pub after : List Claim → Node → Ruling → List Claim
after s d r = take (length s - d.count) s ++ (claim d.line d.row r ∷ [])

-- what a standing says of kind, count and interval
abbrev Says : Bool → Bool → Bool → Standing → Type 0
Says a b t OtherKind = a ≡ false
Says a b t WrongCount = (a ≡ true) × (b ≡ false)
Says a b t OutsideInterval = (a ≡ true) × (b ≡ true) × (t ≡ false)
Says a b t Fits = (a ≡ true) × (b ≡ true) × (t ≡ true)

says : (a b t : Bool) → Says a b t (cond a (cond b (cond t Fits OutsideInterval) WrongCount) OtherKind)
says false b t = refl
says true false t = (refl, refl)
says true true false = (refl, refl, refl)
says true true true = (refl, refl, refl)

pub no_line : (T : Rules) (R : List Row) (s : List Claim) (d : Node) → line_in T d.line ≡ None → stops 14 ≡ node_step T R s d
unfolding node_step
no_line T R s d e = go (ltb d.line (length T)) refl e
  where
    x : Option Form
    x = form_at (forms R d.row (line_at T d.line)) d.rule

    go : (b : Bool) → ltb d.line (length T) ≡ b → cond b (Some (line_at T d.line)) None ≡ None → stops 14 ≡ node_by T R s d (form_at (forms R d.row (line_at T d.line)) d.rule)
    go true h e = let z : ◌≡◌ {A = ℕ} 0 1 = cc in absurd (omega arith)
    go false h e = λ k. by_six (sym h k) (known x) (ltb d.row (length R)) (waits s d (form_or x)) (shows s d (form_or x)) (met s d (form_or x)) (after s d (form_or x).ruling)

-- the line is in the table and read as these parts, and the node's standing is worked out
pub record Read (T : Rules) (R : List Row) (d : Node) (p : Parts) (st : Standing) : Type 0 where
  pub line : Line
  pub found : Some line ≡ line_in T d.line
  pub parted : p ≡ parts_of line
  pub stood : st ≡ standing p.kind d.rule d.count (interval_of R d.row p)

module _ {T : Rules} {R : List Row} {d : Node} {p : Parts} {st : Standing} (s : List Claim) (at : Read T R d p st) where
  read : (b : Bool) → ltb d.line (length T) ≡ b → Some at.line ≡ cond b (Some (line_at T d.line)) None → (ltb d.line (length T) ≡ true) × (at.line ≡ line_at T d.line)
  read true h e = (h, (cc))
  read false h e = let z : ◌≡◌ {A = ℕ} 0 1 = cc in absurd (omega arith)

  in_table : ltb d.line (length T) ≡ true
  in_table = (read (ltb d.line (length T)) refl at.found).0

  agrees : Agrees R d.row p d.rule (form_at (forms R d.row (line_at T d.line)) d.rule)
  agrees =
      subst (λ x. Agrees R d.row x d.rule (form_at (forms R d.row (line_at T d.line)) d.rule))
      (ap parts_of (sym (read (ltb d.line (length T)) refl at.found).1) ∙ sym at.parted)
      (agreed R d.row d.rule (line_at T d.line))

  told : (v : Standing) → st ≡ v → Says (of_kind p.kind d.rule) (counted d.rule d.count) (timed d.rule (interval_of R d.row p)) v
  told v e =
      subst (Says (of_kind p.kind d.rule) (counted d.rule d.count) (timed d.rule (interval_of R d.row p)))
      (sym at.stood ∙ e)
      (says (of_kind p.kind d.rule) (counted d.rule d.count) (timed d.rule (interval_of R d.row p)))

  pub other_kind : st ≡ OtherKind → stops 15 ≡ node_step T R s d
  unfolding node_step
  other_kind e = go (form_at (forms R d.row (line_at T d.line)) d.rule) agrees
    where
      go : (x : Option Form) → Agrees R d.row p d.rule x → stops 15 ≡ node_by T R s d x
      go None h = λ k. by_six (sym in_table k) false (ltb d.row (length R)) (waits s d (form_or None)) (shows s d (form_or None)) (met s d (form_or None)) (after s d (form_or None).ruling)
      go (Some f) h = absurd (both_ways _ (told OtherKind e) h.own)

  -- the form, where the rule is one of the line's kind
  kind_known : (v : Went) → (st ≡ OtherKind → ⊥) → ((f : Form) → Coded R d.row p d.rule f → v ≡ node_by T R s d (Some f)) → v ≡ node_step T R s d
  unfolding node_step
  kind_known v not h = go (form_at (forms R d.row (line_at T d.line)) d.rule) agrees
    where
      other : of_kind p.kind d.rule ≡ false → st ≡ OtherKind
      other e = at.stood ∙ ap (λ b. cond b (cond (counted d.rule d.count) (cond (timed d.rule (interval_of R d.row p)) Fits OutsideInterval) WrongCount) OtherKind) e

      go : (x : Option Form) → Agrees R d.row p d.rule x → v ≡ node_by T R s d x
      go None a = absurd (not (other a))
      go (Some f) a = h f a

  pub no_row : (st ≡ OtherKind → ⊥) → length R ≤ d.row → stops 16 ≡ node_step T R s d
  no_row not over = kind_known (stops 16) not (λ f h k. by_six (sym in_table k) true (sym (le-ltb d.row (length R) over) k) (waits s d f) (shows s d f) (met s d f) (after s d f.ruling))

  pub wrong_count : st ≡ WrongCount → d.row < length R → stops 17 ≡ node_step T R s d
  wrong_count e row =
      kind_known (stops 17) (λ q. both_ways _ (told OtherKind q) (told WrongCount e).0)
      (λ f h k. by_six (sym in_table k) true (sym (lt-ltb d.row (length R) row) k) (sym (and_left _ (leb d.count (length s)) (h.counts d.count ∙ (told WrongCount e).1)) k) (shows s d f) (met s d f) (after s d f.ruling))

  pub few_waiting : (st ≡ OtherKind → ⊥) → d.row < length R → length s < d.count → stops 17 ≡ node_step T R s d
  few_waiting not row few =
      kind_known (stops 17) not
      (λ f h k. by_six (sym in_table k) true (sym (lt-ltb d.row (length R) row) k) (sym (and_right (count_fits f.shape d.count) _ (lt-leb d.count (length s) few)) k) (shows s d f) (met s d f) (after s d f.ruling))

  -- as many children as the rule takes are waiting
  module _ (kind : st ≡ OtherKind → ⊥) (count : st ≡ WrongCount → ⊥) (row : d.row < length R) (many : d.count ≤ length s) where
    taken : counted d.rule d.count ≡ true
    taken = go st refl (told st refl)
      where
        go : (v : Standing) → st ≡ v → Says (of_kind p.kind d.rule) (counted d.rule d.count) (timed d.rule (interval_of R d.row p)) v → counted d.rule d.count ≡ true
        go OtherKind e h = absurd (kind e)
        go WrongCount e h = absurd (count e)
        go OutsideInterval e h = h.1
        go Fits e h = h.1

    within : (st ≡ OutsideInterval → ⊥) → timed d.rule (interval_of R d.row p) ≡ true
    within interval = go st refl (told st refl)
      where
        go : (v : Standing) → st ≡ v → Says (of_kind p.kind d.rule) (counted d.rule d.count) (timed d.rule (interval_of R d.row p)) v → timed d.rule (interval_of R d.row p) ≡ true
        go OtherKind e h = absurd (kind e)
        go WrongCount e h = absurd (count e)
        go OutsideInterval e h = absurd (interval e)
        go Fits e h = h.2

    waits_is : (f : Form) → Coded R d.row p d.rule f → waits s d f ≡ true
    waits_is f h = and_from _ _ (h.counts d.count ∙ taken) (le-leb d.count (length s) many)

    cut_is : cut_of s d ≡ kids_of s d
    cut_is = let n = length-drop (length s - d.count) s in take_all (length s - (length s - d.count)) (kids_of s d) (omega arith)

    shows_is : (f : Form) → Coded R d.row p d.rule f → shows s d f ≡ lines_shown d.rule p.left p.right (cut_of s d)
    shows_is f h =
        let n : length (kids_of s d) ≡ d.count = length-drop (length s - d.count) s ∙ (omega arith) in
        h.lines (kids_of s d) (ap (count_fits f.shape) n ∙ (h.counts d.count ∙ taken)) ∙ ap (lines_shown d.rule p.left p.right) (sym cut_is)

    pub wrong_child : lines_shown d.rule p.left p.right (cut_of s d) ≡ false → stops 18 ≡ node_step T R s d
    wrong_child bad =
        kind_known (stops 18) kind
        (λ f h k. by_six (sym in_table k) true (sym (lt-ltb d.row (length R) row) k) (sym (waits_is f h) k) (sym (shows_is f h ∙ bad) k) (met s d f) (after s d f.ruling))

    module _ (shown : lines_shown d.rule p.left p.right (cut_of s d) ≡ true) where
      met_is : (f : Form) → Coded R d.row p d.rule f → met s d f ≡ (timed d.rule (interval_of R d.row p) && placed R d.rule p d.row (cut_of s d))
      met_is f h =
          h.rows (kids_of s d) (shows_is f h ∙ shown)
          ∙ ap (λ x. timed d.rule (interval_of R d.row p) && placed R d.rule p d.row x) (sym cut_is)

      not_met : (timed d.rule (interval_of R d.row p) && placed R d.rule p d.row (cut_of s d)) ≡ false → stops 19 ≡ node_step T R s d
      not_met bad =
          kind_known (stops 19) kind
          (λ f h k. by_six (sym in_table k) true (sym (lt-ltb d.row (length R) row) k) (sym (waits_is f h) k) (sym (shows_is f h ∙ shown) k) (sym (met_is f h ∙ bad) k) (after s d f.ruling))

      pub outside_interval : st ≡ OutsideInterval → stops 19 ≡ node_step T R s d
      outside_interval e = not_met (and_left _ _ (told OutsideInterval e).2)

      pub not_placed : placed R d.rule p d.row (cut_of s d) ≡ false → stops 19 ≡ node_step T R s d
      not_placed bad = not_met (and_right _ _ bad)

      pub goes_on : (st ≡ OutsideInterval → ⊥) → placed R d.rule p d.row (cut_of s d) ≡ true → goes (after s d (ruled d.rule)) ≡ node_step T R s d
      goes_on interval good =
          kind_known (goes (after s d (ruled d.rule))) kind
          (λ f h k. by_six (sym in_table k) true (sym (lt-ltb d.row (length R) row) k) (sym (waits_is f h) k) (sym (shows_is f h ∙ shown) k)
          (sym (met_is f h ∙ and_from _ _ (within interval) good) k) (after s d (sym h.rules k)))
