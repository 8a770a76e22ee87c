use Rattle.std.proofs.Common.{◌≡◌, ℕ, ◌+◌, ◌-◌, ◌<◌, ◌&&◌, T as Yes, ltb, leb, List, length, sym, refl, subst, arith, le→leb, eqb→eq, ltb→lt, lt→ltb, leb→le, T_not}
use Rattle.std.proofs.Math.Facts.{yes_eqb}
use lib.Dec.{not_T}
use Rattle.mtl.specs.Claims.{Claim, Ruling, held, broken, first_row}
use Rattle.mtl.specs.Follows.{Follows, rule_1, rule_2, rule_3, rule_4, rule_5, rule_6, rule_7, rule_8, rule_9, rule_10, rule_11, rule_12, rule_13, rule_14, rule_15, rule_16, rule_17, rule_18, rule_19, rule_20, rule_21, rule_22, rule_23, rule_24, rule_25, rule_26, LineIs}
use Rattle.mtl.specs.Forms.{Form, forms}
use Rattle.mtl.specs.Lines.{Line, mark, neg, and, or, previous, next, since, until, Rules, line_at}
use Rattle.mtl.specs.Rows.{Row, row_at, time_at}
use Rattle.mtl.specs.Windows.{up_to}
use Rattle.mtl.specs.Lists.{AllOf, AnyOf, here, there}
use Rattle.mtl.proofs.Tests.{stands_test, test_stands, inside_test, up_to_test, test_inside, test_up_to, past_test, test_past, both, fst_of, snd_of}

module _ (T : Rules) (R : List Row) where
  -- what a rule at a line and a row says of children that the check has found
  abbrev pub Allows : ℕ → ℕ → Form → Type 0
  Allows n i f =
      (kids : List Claim) → f.kids (first_row kids) ≡ kids → Yes (f.meets (first_row kids)) →
      Follows T R f.number (record { line = n; row = i; ruling = f.ruling }) kids

  via : {n i num : ℕ} {r : Ruling} (ks kids : List Claim) → ks ≡ kids → Follows T R num (record { line = n; row = i; ruling = r }) ks →
      Follows T R num (record { line = n; row = i; ruling = r }) kids
  via {n = n} {i = i} {num = num} {r = r} ks kids e f = subst (λ x. Follows T R num (record { line = n; row = i; ruling = r }) x) e f

  pub allowed : (i : ℕ) → i < length R → (n : ℕ) (l : Line) → LineIs T n l → AllOf (Allows n i) (forms R i l)
  unfolding forms
  allowed i lt n (mark m) at =
      (λ ks e t. via _ ks e (rule_1 at lt (test_stands (row_at R i) m t)), (λ ks e t. via _ ks e (rule_2 at lt (λ s. T_not _ t (stands_test (row_at R i) m s))), tt))
  allowed i lt n (neg l) at = (λ ks e t. via _ ks e (rule_3 at lt), (λ ks e t. via _ ks e (rule_4 at lt), tt))
  allowed i lt n (and l r) at =
      (λ ks e t. via _ ks e (rule_5 at lt), (λ ks e t. via _ ks e (rule_6 at lt), (λ ks e t. via _ ks e (rule_7 at lt), tt)))
  allowed i lt n (or l r) at =
      (λ ks e t. via _ ks e (rule_8 at lt), (λ ks e t. via _ ks e (rule_9 at lt), (λ ks e t. via _ ks e (rule_10 at lt), tt)))
  allowed i lt n (previous w l) at = (
    λ ks e t. via _ ks e (rule_11 at lt (ltb→lt 0 i (fst_of _ _ t)) (test_inside w _ (snd_of (ltb 0 i) _ t))),
    (
      λ ks e t. via _ ks e (rule_12 at lt (ltb→lt 0 i t)),
      (
        λ ks e t. via _ ks e (rule_13 at lt (ltb→lt 0 i (fst_of _ _ t)) (ltb→lt _ _ (snd_of (ltb 0 i) _ t))),
        (
          λ ks e t. via _ ks e (rule_14 at lt (ltb→lt 0 i (fst_of _ _ t)) (test_past w.to _ (snd_of (ltb 0 i) _ t))),
          (λ ks e t. via _ ks e (rule_15 at lt (eqb→eq i 0 t)), tt),
        ),
      ),
    ),
  )
  allowed i lt n (next w l) at = (
    λ ks e t. via _ ks e (rule_16 at (ltb→lt (i + 1) (length R) (fst_of _ _ t)) (test_inside w _ (snd_of (ltb (i + 1) (length R)) _ t))),
    (
      λ ks e t. via _ ks e (rule_17 at lt),
      (
        λ ks e t. via _ ks e (rule_18 at (ltb→lt (i + 1) (length R) (fst_of _ _ t)) (ltb→lt _ _ (snd_of (ltb (i + 1) (length R)) _ t))),
        (λ ks e t. via _ ks e (rule_19 at (ltb→lt (i + 1) (length R) (fst_of _ _ t)) (test_past w.to _ (snd_of (ltb (i + 1) (length R)) _ t))), tt),
      ),
    ),
  )
  allowed i lt n (since w l r) at = (
    λ ks e t. let j = first_row ks in via _ ks e (rule_20 at lt (leb→le j i (fst_of _ _ t)) (test_inside w _ (snd_of (leb j i) _ t))),
    (
      λ ks e t. let j = first_row ks in
          let a = fst_of (leb 1 j && leb j i) _ t in let b = snd_of (leb 1 j && leb j i) _ t in
          via _ ks e (rule_21 at lt (leb→le 1 j (fst_of _ _ a)) (leb→le j i (snd_of (leb 1 j) _ a)) (test_up_to w.to _ (fst_of _ _ b))
          (leb→le _ _ (snd_of (up_to w.to (time_at R i - time_at R (j - 1))) _ b))),
      (λ ks e t. via _ ks e (rule_22 at lt (leb→le _ _ t)), (λ ks e t. via _ ks e (rule_23 at lt (ltb→lt _ _ t)), tt)),
    ),
  )
  allowed i lt n (until w l r) at = (
    λ ks e t. let j = first_row ks in
        let a = fst_of (leb i j && ltb j (length R)) _ t in
        via _ ks e (rule_24 at (leb→le i j (fst_of _ _ a)) (ltb→lt j (length R) (snd_of (leb i j) _ a)) (test_inside w _ (snd_of (leb i j && ltb j (length R)) _ t))),
    (
      λ ks e t. let j = first_row ks in
          let a = fst_of (leb i j && ltb j (length R)) _ t in
          via _ ks e (rule_25 at (leb→le i j (fst_of _ _ a)) (ltb→lt j (length R) (snd_of (leb i j) _ a)) (test_up_to w.to _ (snd_of (leb i j && ltb j (length R)) _ t))),
      (λ ks e t. via _ ks e (rule_26 at lt (test_past w.to _ t)), tt),
    ),
  )

  -- a form that gives a rule's children
  pub record Gives (rule : ℕ) (r : Ruling) (kids : List Claim) (f : Form) : Type 0 where
    pub number_is : f.number ≡ rule
    pub ruling_is : f.ruling ≡ r
    pub kids_are : f.kids (first_row kids) ≡ kids
    pub met : Yes (f.meets (first_row kids))

  pub record Formed (rule : ℕ) (c : Claim) (kids : List Claim) : Type 0 where
    pub line_in : c.line < length T
    pub row_in : c.row < length R
    pub form_in : AnyOf (Gives rule c.ruling kids) (forms R c.row (line_at T c.line))

  put : {rule : ℕ} {kids : List Claim} (n i : ℕ) (r : Ruling) (l : Line) → LineIs T n l → i < length R → AnyOf (Gives rule r kids) (forms R i l) →
      Formed rule (record { line = n; row = i; ruling = r }) kids
  put {rule = rule} {kids = kids} n i r l at lt h =
      record { line_in = at.within; row_in = lt; form_in = subst (λ x. AnyOf (Gives rule r kids) (forms R i x)) (sym at.is) h }

  abbrev ok : {rule : ℕ} {r : Ruling} {kids : List Claim} (f : Form) → f.number ≡ rule → f.ruling ≡ r → f.kids (first_row kids) ≡ kids → Yes (f.meets (first_row kids)) → Gives rule r kids f
  ok f a b c d = record { number_is = a; ruling_is = b; kids_are = c; met = d }

  pub formed : {rule : ℕ} {c : Claim} {kids : List Claim} → Follows T R rule c kids → Formed rule c kids
  unfolding forms
  formed (rule_1 {n = n} {i = i} {m = m} at lt s) = put n i held (mark m) at lt (here (ok _ refl refl refl (stands_test (row_at R i) m s)))
  formed (rule_2 {n = n} {i = i} {m = m} at lt s) = put n i broken (mark m) at lt (there (here (ok _ refl refl refl (not_T _ (λ t. s (test_stands (row_at R i) m t))))))
  formed (rule_3 {n = n} {i = i} {l = l} at lt) = put n i held (neg l) at lt (here (ok _ refl refl refl tt))
  formed (rule_4 {n = n} {i = i} {l = l} at lt) = put n i broken (neg l) at lt (there (here (ok _ refl refl refl tt)))
  formed (rule_5 {n = n} {i = i} {l = l} {r = r} at lt) = put n i held (and l r) at lt (here (ok _ refl refl refl tt))
  formed (rule_6 {n = n} {i = i} {l = l} {r = r} at lt) = put n i broken (and l r) at lt (there (here (ok _ refl refl refl tt)))
  formed (rule_7 {n = n} {i = i} {l = l} {r = r} at lt) = put n i broken (and l r) at lt (there (there (here (ok _ refl refl refl tt))))
  formed (rule_8 {n = n} {i = i} {l = l} {r = r} at lt) = put n i held (or l r) at lt (here (ok _ refl refl refl tt))
  formed (rule_9 {n = n} {i = i} {l = l} {r = r} at lt) = put n i held (or l r) at lt (there (here (ok _ refl refl refl tt)))
  formed (rule_10 {n = n} {i = i} {l = l} {r = r} at lt) = put n i broken (or l r) at lt (there (there (here (ok _ refl refl refl tt))))
  formed (rule_11 {n = n} {i = i} {l = l} {w = w} at lt pos ins) =
      put n i held (previous w l) at lt (here (ok _ refl refl refl (both _ _ (lt→ltb 0 i pos) (inside_test w _ ins))))
  formed (rule_12 {n = n} {i = i} {l = l} {w = w} at lt pos) = put n i broken (previous w l) at lt (there (here (ok _ refl refl refl (lt→ltb 0 i pos))))
  formed (rule_13 {n = n} {i = i} {l = l} {w = w} at lt pos h) =
      put n i broken (previous w l) at lt (there (there (here (ok _ refl refl refl (both _ _ (lt→ltb 0 i pos) (lt→ltb _ _ h))))))
  formed (rule_14 {n = n} {i = i} {l = l} {w = w} at lt pos h) =
      put n i broken (previous w l) at lt (there (there (there (here (ok _ refl refl refl (both _ _ (lt→ltb 0 i pos) (past_test w.to _ h)))))))
  formed (rule_15 {n = n} {i = i} {l = l} {w = w} at lt z) =
      put n i broken (previous w l) at lt (there (there (there (there (here (ok _ refl refl refl (yes_eqb z)))))))
  formed (rule_16 {n = n} {i = i} {l = l} {w = w} at lt ins) =
      put n i held (next w l) at (omega arith) (here (ok _ refl refl refl (both _ _ (lt→ltb _ _ lt) (inside_test w _ ins))))
  formed (rule_17 {n = n} {i = i} {l = l} {w = w} at lt) = put n i broken (next w l) at lt (there (here (ok _ refl refl refl tt)))
  formed (rule_18 {n = n} {i = i} {l = l} {w = w} at lt h) =
      put n i broken (next w l) at (omega arith) (there (there (here (ok _ refl refl refl (both _ _ (lt→ltb _ _ lt) (lt→ltb _ _ h))))))
  formed (rule_19 {n = n} {i = i} {l = l} {w = w} at lt h) =
      put n i broken (next w l) at (omega arith) (there (there (there (here (ok _ refl refl refl (both _ _ (lt→ltb _ _ lt) (past_test w.to _ h)))))))
  formed (rule_20 {n = n} {i = i} {l = l} {r = r} {w = w} at lt le ins) =
      put n i held (since w l r) at lt (here (ok _ refl refl refl (both _ _ (le→leb _ _ le) (inside_test w _ ins))))
  formed (rule_21 {n = n} {i = i} {l = l} {r = r} {w = w} at lt pos le up fr) =
      put n i broken (since w l r) at lt
      (there (here (ok _ refl refl refl (both _ _ (both _ _ (le→leb _ _ pos) (le→leb _ _ le)) (both _ _ (up_to_test w.to _ up) (le→leb _ _ fr))))))
  formed (rule_22 {n = n} {i = i} {l = l} {r = r} {w = w} at lt fr) = put n i broken (since w l r) at lt (there (there (here (ok _ refl refl refl (le→leb _ _ fr)))))
  formed (rule_23 {n = n} {i = i} {l = l} {r = r} {w = w} at lt h) =
      put n i broken (since w l r) at lt (there (there (there (here (ok _ refl refl refl (lt→ltb _ _ h))))))
  formed (rule_24 {n = n} {i = i} {l = l} {r = r} {w = w} at le lt ins) =
      put n i held (until w l r) at (omega arith) (here (ok _ refl refl refl (both _ _ (both _ _ (le→leb _ _ le) (lt→ltb _ _ lt)) (inside_test w _ ins))))
  formed (rule_25 {n = n} {i = i} {l = l} {r = r} {w = w} at le lt up) =
      put n i broken (until w l r) at (omega arith) (there (here (ok _ refl refl refl (both _ _ (both _ _ (le→leb _ _ le) (lt→ltb _ _ lt)) (up_to_test w.to _ up)))))
  formed (rule_26 {n = n} {i = i} {l = l} {r = r} {w = w} at lt h) =
      put n i broken (until w l r) at lt (there (there (here (ok _ refl refl refl (past_test w.to _ h)))))
