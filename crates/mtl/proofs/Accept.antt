use Rattle.std.proofs.Common.{◌≡◌, ℕ, suc, ◌-◌, ◌<◌, ◌≤◌, Bool, true, false, cond, ◌&&◌, T as Yes, eqb, leb, ◌↔◌, List, [], ◌∷◌, ◌++◌, length, take, drop, Some, None, Option, sym, refl, ap, ◌∙◌, subst, ap₂, arith, le→leb, eqb→eq, ltb→lt, lt→ltb, leb→le, length-append, length-drop, take-append-drop}
use Rattle.std.proofs.Math.Seq.{drop-append_seam, take-append_seam}
use lib.Dec.{eqb_refl}
use Rattle.mtl.specs.Certificates.{node_of, Cert}
use Rattle.mtl.specs.Checking.{form_at, alike, all_alike, each_alike, same_rows, count_fits, lines_fit, Went, stops, goes, went, node_questions, node_by, node_step, Verdict, accepted, refused, ended, checks}
use Rattle.mtl.specs.Claims.{Claim, Ruling, held, broken, Node, each, first_row, same_ruling}
use Rattle.mtl.specs.Follows.{Follows}
use Rattle.mtl.specs.Forms.{exactly, Form, forms}
use Rattle.mtl.specs.Lines.{Line, mark, neg, and, or, previous, next, since, until, Rules, line_at}
use Rattle.mtl.specs.Questions.{first_no}
use Rattle.mtl.specs.Rows.{Row}
use Rattle.mtl.proofs.Asked.{all_yes, yes_all}
use Rattle.mtl.proofs.Checks.{Allows, allowed, Gives, Formed, formed}
use Rattle.mtl.specs.Lists.{AllOf, AnyOf, here, there}
use Rattle.mtl.specs.Waiting.{Leaves, stop, take as takes}
use Rattle.mtl.proofs.Machine.{accepts}
use Rattle.mtl.proofs.Tests.{both, fst_of, snd_of}

pub ruling_same : (a b : Ruling) → Yes (same_ruling a b) → a ≡ b
ruling_same held held t = refl
ruling_same held broken t = absurd t
ruling_same broken held t = absurd t
ruling_same broken broken t = refl

pub ruling_refl : (a : Ruling) → Yes (same_ruling a a)
ruling_refl held = tt
ruling_refl broken = tt

alike_refl : (a : Claim) → Yes (alike a a)
alike_refl a = both _ _ (eqb_refl a.line) (ruling_refl a.ruling)

rows_same : (xs ys : List Claim) → Yes (same_rows xs ys) → xs ≡ ys
unfolding same_rows
rows_same [] [] t = refl
rows_same [] (y ∷ ys) t = absurd t
rows_same (x ∷ xs) [] t = absurd t
rows_same (x ∷ xs) (y ∷ ys) t =
    let h = fst_of (eqb x.row y.row && alike x y) _ t in
    let p = eqb→eq x.row y.row (fst_of _ _ h) in
    let al = snd_of (eqb x.row y.row) _ h in
    let q = eqb→eq x.line y.line (fst_of _ _ al) in
    let r = ruling_same x.ruling y.ruling (snd_of (eqb x.line y.line) _ al) in
    ap₂ ◌∷◌ (λ i. record { line = q i; row = p i; ruling = r i }) (rows_same xs ys (snd_of (eqb x.row y.row && alike x y) _ t))

rows_refl : (xs : List Claim) → Yes (same_rows xs xs)
unfolding same_rows
rows_refl [] = tt
rows_refl (x ∷ xs) = both _ _ (both _ _ (eqb_refl x.row) (alike_refl x)) (rows_refl xs)

each_refl : (xs : List Claim) → Yes (each_alike xs xs)
unfolding each_alike
each_refl [] = tt
each_refl (x ∷ xs) = both _ _ (alike_refl x) (each_refl xs)

all_alike_lem : (r : Ruling) (n i : ℕ) (ks : List ℕ) → Yes (all_alike (record { line = n; row = i; ruling = r }) (each r n ks))
unfolding all_alike
all_alike_lem r n i [] = tt
all_alike_lem r n i (k ∷ ks) = both _ _ (both _ _ (eqb_refl n) (ruling_refl r)) (all_alike_lem r n i ks)

-- a rule's own children have its shape
abbrev Shaped : Form → Type 0
Shaped f = (j : ℕ) → Yes (count_fits f.shape (length (f.kids j))) × Yes (lines_fit f.shape (f.kids j))

shaped_fixed : (ks : List Claim) → ℕ → Yes (count_fits (exactly ks) (length ks)) × Yes (lines_fit (exactly ks) ks)
shaped_fixed ks j = (eqb_refl (length ks), each_refl ks)

one_more : (n : ℕ) → Yes (leb 1 (suc n))
one_more n = le→leb 1 (suc n) (omega arith)

shaped : (R : List Row) (i : ℕ) (l : Line) → AllOf Shaped (forms R i l)
unfolding forms
shaped R i (mark m) = (shaped_fixed _, (shaped_fixed _, tt))
shaped R i (neg l) = (shaped_fixed _, (shaped_fixed _, tt))
shaped R i (and l r) = (shaped_fixed _, (shaped_fixed _, (shaped_fixed _, tt)))
shaped R i (or l r) = (shaped_fixed _, (shaped_fixed _, (shaped_fixed _, tt)))
shaped R i (previous w l) =
    (shaped_fixed _, (shaped_fixed _, (shaped_fixed _, (shaped_fixed _, (shaped_fixed _, tt)))))
shaped R i (next w l) = (shaped_fixed _, (shaped_fixed _, (shaped_fixed _, (shaped_fixed _, tt))))
shaped R i (since w l r) = (
  λ j. (one_more _, both _ _ (both _ _ (eqb_refl r) tt) (all_alike_lem held l i _)),
  (
    λ j. (one_more _, both _ _ (both _ _ (eqb_refl l) tt) (all_alike_lem broken r i _)),
    (λ j. (tt, all_alike_lem broken r i _), (shaped_fixed _, tt)),
  ),
)
shaped R i (until w l r) = (
  λ j. (one_more _, both _ _ (both _ _ (eqb_refl r) tt) (all_alike_lem held l i _)),
  (λ j. (one_more _, both _ _ (both _ _ (eqb_refl l) tt) (all_alike_lem broken r i _)), (λ j. (tt, all_alike_lem broken r i _), tt)),
)

-- a form's number is its own
abbrev pub Rises : List Form → Type 0
Rises [] = Unit {0}
Rises (f ∷ fs) = AllOf (λ (g : Form). f.number < g.number) fs × Rises fs

pub rises : (R : List Row) (i : ℕ) (l : Line) → Rises (forms R i l)
unfolding forms
rises R i (mark m) = omega arith
rises R i (neg l) = omega arith
rises R i (and l r) = omega arith
rises R i (or l r) = omega arith
rises R i (previous w l) = omega arith
rises R i (next w l) = omega arith
rises R i (since w l r) = omega arith
rises R i (until w l r) = omega arith

-- the form that is looked up
pub record Looked (P : Form → Type 0) (fs : List Form) (n : ℕ) : Type 0 where
  pub which : Form
  pub at : form_at fs n ≡ Some which
  pub has : P which

look : (P : Form → Type 0) (fs : List Form) (n : ℕ) → Rises fs → AnyOf (λ f. (f.number ≡ n) × P f) fs → Looked P fs n
unfolding form_at
look P [] n r h = elim h [ ]
look P (f ∷ fs) n r (here h) = record { which = f; at = go (eqb f.number n) (subst (λ x. Yes (eqb f.number x)) h.0 (eqb_refl f.number)); has = h.1 }
  where
    go : (b : Bool) → Yes b → cond b (Some f) (form_at fs n) ≡ Some f
    go true t = refl
    go false t = absurd t
look P (f ∷ fs) n r (there h) = let k = look P fs n r.1 h in record { which = k.which; at = go (eqb f.number n) (eqb→eq _ _) (later fs r.0 h) ∙ k.at; has = k.has }
  where
    later : (gs : List Form) → AllOf (λ (g : Form). f.number < g.number) gs → AnyOf (λ g. (g.number ≡ n) × P g) gs → f.number < n
    later [] a h = elim h [ ]
    later (g ∷ gs) a (here h) = omega (arith, h.0, a.0)
    later (g ∷ gs) a (there h) = later gs a.1 h

    go : (b : Bool) → (Yes b → f.number ≡ n) → f.number < n → cond b (Some f) (form_at fs n) ≡ form_at fs n
    go true e lt = let x = e tt in absurd (omega arith)
    go false e lt = refl

looked_in : (P : Form → Type 0) (fs : List Form) (n : ℕ) (f : Form) → AllOf P fs → form_at fs n ≡ Some f → (f.number ≡ n) × P f
unfolding form_at
looked_in P [] n f a e = cc
looked_in P (g ∷ gs) n f a e = go (eqb g.number n) (eqb→eq _ _) (looked_in P gs n f a.1) e
  where
    go : (b : Bool) → (Yes b → g.number ≡ n) → (form_at gs n ≡ Some f → (f.number ≡ n) × P f) → cond b (Some g) (form_at gs n) ≡ Some f → (f.number ≡ n) × P f
    go true k ih e = let s : g ≡ f = cc in (ap (λ (x : Form). x.number) (sym s) ∙ k tt, subst P s a.0)
    go false k ih e = ih e

went_goes : (o : Option ℕ) (s t : List Claim) → went o s ≡ goes t → (o ≡ None) × (s ≡ t)
went_goes None s t e = (refl, (cc))
went_goes (Some q) s t e = cc

module _ (T : Rules) (R : List Row) where
  pub record Took (s : List Claim) (d : Node) (t : List Claim) : Type 0 where
    pub rest : List Claim
    pub kids : List Claim
    pub claim : Claim
    pub stack_was : rest ++ kids ≡ s
    pub node_is : node_of d.rule claim kids ≡ d
    pub stack_is : rest ++ (claim ∷ []) ≡ t
    pub follows : Follows T R d.rule claim kids

  pub took : (s : List Claim) (d : Node) (t : List Claim) → node_step T R s d ≡ goes t → Took s d t
  unfolding node_step
  took s d t e = by_form (form_at (forms R d.row (line_at T d.line)) d.rule) refl e
    where
      ks : List Claim
      ks = drop (length s - d.count) s

      by_form : (o : Option Form) → form_at (forms R d.row (line_at T d.line)) d.rule ≡ o → node_by T R s d o ≡ goes t → Took s d t
      by_form None eo e = let w = went_goes (first_no (node_questions T R s d ks None)) (take (length s - d.count) s ++ (record { line = d.line; row = d.row; ruling = held } ∷ [])) t e in
          absurd (yes_all (node_questions T R s d ks None) w.0).1.0
      by_form (Some f) eo e =
          let w = went_goes (first_no (node_questions T R s d ks (Some f))) (take (length s - d.count) s ++ (record { line = d.line; row = d.row; ruling = f.ruling } ∷ [])) t e in
          let ys = yes_all (node_questions T R s d ks (Some f)) w.0 in
          let in_t : d.line < length T = ltb→lt _ _ ys.0 in
          let in_r : d.row < length R = ltb→lt _ _ ys.1.1.0 in
          let few : d.count ≤ length s = leb→le _ _ (snd_of (count_fits f.shape d.count) _ ys.1.1.1.0) in
          let g = ys.1.1.1.1.1.0 in
          let al = looked_in (Allows T R d.line d.row) (forms R d.row (line_at T d.line)) d.rule f
          (allowed T R d.row in_r d.line (line_at T d.line) (record { within = in_t; is = refl })) eo in
          let same = rows_same (f.kids (first_row ks)) ks (fst_of _ _ g) in
          let n : length ks ≡ d.count = length-drop (length s - d.count) s ∙ (omega arith) in
          let fo : Follows T R f.number (record { line = d.line; row = d.row; ruling = f.ruling }) ks =
          al.1 ks same (snd_of (same_rows (f.kids (first_row ks)) ks) _ g) in
          record {
            rest = take (length s - d.count) s;
            kids = ks;
            claim = record { line = d.line; row = d.row; ruling = f.ruling };
            stack_was = take-append-drop (length s - d.count) s;
            node_is = λ i. record { line = d.line; rule = d.rule; row = d.row; count = n i };
            stack_is = w.1;
            follows = subst (λ x. Follows T R x (record { line = d.line; row = d.row; ruling = f.ruling }) ks) al.0 fo;
          }

  goes_on : (s kids : List Claim) (rule : ℕ) (c : Claim) → Follows T R rule c kids → node_step T R (s ++ kids) (node_of rule c kids) ≡ goes (s ++ (c ∷ []))
  unfolding node_step
  goes_on s kids rule c fo =
      ap (node_by T R (s ++ kids) (node_of rule c kids)) k.at ∙
      (ap (λ o. went o (take (length (s ++ kids) - length kids) (s ++ kids) ++ (record { line = c.line; row = c.row; ruling = f.ruling } ∷ [])))
      (all_yes (node_questions T R (s ++ kids) (node_of rule c kids) (drop (length (s ++ kids) - length kids) (s ++ kids)) (Some f)) (
        lt→ltb _ _ h.line_in,
        (
          tt,
          (
            lt→ltb _ _ h.row_in,
            (
              both _ _ (subst (λ x. Yes (count_fits f.shape (length x))) k.has.kids_are sh.0) (le→leb _ _ fits),
              (
                subst (λ x. Yes (lines_fit f.shape x)) (sym dropped) (subst (λ x. Yes (lines_fit f.shape x)) k.has.kids_are sh.1),
                (
                  subst (λ x. Yes (same_rows (f.kids (first_row x)) x && f.meets (first_row x))) (sym dropped)
                      (both _ _ (subst (λ x. Yes (same_rows x kids)) (sym k.has.kids_are) (rows_refl kids)) k.has.met),
                  tt,
                ),
              ),
            ),
          ),
        ),
      )) ∙
      ap goes (ap₂ (λ x (y : Claim). x ++ (y ∷ [])) taken (λ i. record { line = c.line; row = c.row; ruling = k.has.ruling_is i })))
    where
      h : Formed T R rule c kids
      h = formed T R fo

      fs : List Form
      fs = forms R c.row (line_at T c.line)

      numbered : (gs : List Form) → AnyOf (Gives T R rule c.ruling kids) gs → AnyOf (λ f. (f.number ≡ rule) × Gives T R rule c.ruling kids f) gs
      numbered [] g = elim g [ ]
      numbered (x ∷ gs) (here g) = here (g.number_is, g)
      numbered (x ∷ gs) (there g) = there (numbered gs g)

      k : Looked (Gives T R rule c.ruling kids) fs rule
      k = look _ fs rule (rises R c.row (line_at T c.line)) (numbered fs h.form_in)

      f : Form
      f = k.which

      sh : Yes (count_fits f.shape (length (f.kids (first_row kids)))) × Yes (lines_fit f.shape (f.kids (first_row kids)))
      sh = (looked_in Shaped fs rule f (shaped R c.row (line_at T c.line)) k.at).1 (first_row kids)

      fits : length kids ≤ length (s ++ kids)
      fits = omega (arith, length-append s kids)

      front : length (s ++ kids) - length kids ≡ length s
      front = omega (arith, length-append s kids)

      dropped : drop (length (s ++ kids) - length kids) (s ++ kids) ≡ kids
      dropped = ap (λ x. drop x (s ++ kids)) front ∙ drop-append_seam s kids

      taken : take (length (s ++ kids) - length kids) (s ++ kids) ≡ s
      taken = ap (λ x. take x (s ++ kids)) front ∙ take-append_seam s kids

  leaves_check : {s t : List Claim} {ns : List Node} (k : ℕ) (c : Claim) → Leaves T R s ns t → t ≡ c ∷ [] → checks T R s ns k ≡ accepted c
  unfolding checks
  leaves_check {s = s} k c stop e = ap (λ x. ended x k) e
  leaves_check {t = t} k c (takes s {kids = kids} {c = d} {rule = rule} {ns = ns} f r) e =
      ap (λ w. after ns k w) (goes_on s kids rule d f) ∙ leaves_check (suc k) c r e
    where
      after : List Node → ℕ → Went → Verdict
      after ns k w = elim w [ stops q ↦ refused q k | goes t ↦ checks T R t ns (suc k) ]

  check_leaves : (s : List Claim) (ns : List Node) (k : ℕ) (c : Claim) → checks T R s ns k ≡ accepted c → Leaves T R s ns (c ∷ [])
  unfolding checks
  check_leaves [] [] k c e = cc
  check_leaves (x ∷ []) [] k c e = let q : x ≡ c = cc in subst (λ y. Leaves T R (x ∷ []) [] (y ∷ [])) q stop
  check_leaves (x ∷ y ∷ s) [] k c e = cc
  check_leaves s (d ∷ ns) k c e = go (node_step T R s d) refl (λ t. check_leaves t ns (suc k) c) e
    where
      go : (w : Went) → node_step T R s d ≡ w → ((t : List Claim) → checks T R t ns (suc k) ≡ accepted c → Leaves T R t ns (c ∷ [])) →
          (elim w as (λ _. Verdict) [ stops q ↦ refused q k | goes t ↦ checks T R t ns (suc k) ]) ≡ accepted c → Leaves T R s (d ∷ ns) (c ∷ [])
      go (stops q) ew ih e = cc
      go (goes t) ew ih e =
          let k = took s d t ew in
          subst (λ x. Leaves T R x (d ∷ ns) (c ∷ [])) k.stack_was
          (subst (λ x. Leaves T R (k.rest ++ k.kids) (x ∷ ns) (c ∷ [])) k.node_is
          (takes k.rest k.follows (subst (λ x. Leaves T R x ns (c ∷ [])) (sym k.stack_is) (ih t e))))

  pub check_is : (ns : List Node) (c : Claim) → checks T R [] ns 0 ≡ accepted c ↔ Cert T R c ns
  check_is ns c =
      (λ e. (accepts T R c ns).0 (check_leaves [] ns 0 c e), λ d. leaves_check 0 c ((accepts T R c ns).1 d) refl)
