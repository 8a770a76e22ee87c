use Rattle.std.proofs.Common.{◌≡◌, ℕ, zero, suc, ◌+◌, ◌-◌, ◌<◌, ◌≤◌, ◌⊎◌, List, [], ◌∷◌, ◌++◌, length, refl, subst, inl, inr, le_refl, arith, leb→le}
use native.Mathlib.Decide.{dec_le, dec_lt, ℕ_discrete}
use Rattle.mtl.specs.Certificates.{Certs, node, none, more, Certified}
use Rattle.mtl.specs.Claims.{Claim, Held, Broken, Node}
use Rattle.mtl.specs.Follows.{Follows, rule_1, rule_2, rule_3, rule_4, rule_5, rule_6, rule_7, rule_8, rule_9, rule_10, rule_11, rule_12, rule_13, rule_14, rule_15, rule_16, rule_17, rule_18, rule_19, rule_20, rule_21, rule_22, rule_23, rule_24, rule_25, rule_26, LineIs}
use Rattle.mtl.specs.Formulas.{shape, formula}
use Rattle.mtl.specs.Lines.{Window, Line, mark, neg, and, or, previous, next, since, until, Rules, line_at, WellFormed}
use Rattle.mtl.specs.Reach.{Reach}
use Rattle.mtl.specs.Rows.{row_at, stands, Row, NeverFalls, time_at}
use Rattle.mtl.specs.Windows.{UpTo, Past, Inside}
use Rattle.mtl.specs.Lists.{AllOf}
use Rattle.mtl.proofs.Lists.{map_all, keep_all, run_all, range_all}
use Rattle.mtl.proofs.Operands.{Earlier, earlier_at}
use Rattle.std.proofs.lemmas.Bool.{cases_Bool}
use Rattle.mtl.proofs.Tests.{yes_true, not_true, stands_test, test_stands, past_not, past_up, up_or_past, test_inside}
use Rattle.mtl.proofs.Unrolled.{formula_at}

module _ (T : Rules) (R : List Row) where
  pub gather : (cs : List Claim) → AllOf (Certified T R) cs → (ns : List Node) × Certs T R cs ns
  gather [] h = ([], none)
  gather (c ∷ cs) h = let r = gather cs h.1 in (h.0.0 ++ r.0, more h.0.1 r.1)

  pub build : {rule : ℕ} {c : Claim} {kids : List Claim} → Follows T R rule c kids → AllOf (Certified T R) kids → Certified T R c
  build f h = let r = gather _ h in (_, node f r.1)

  abbrev pub Settled : ℕ → ℕ → Type 0
  Settled n i = Certified T R (Held n i) ⊎ Certified T R (Broken n i)

module _ (T : Rules) (R : List Row) (rising : NeverFalls R) (n i l r : ℕ) (w : Window) (at : LineIs T n (since w l r)) (in-log : i < length R)
    (settled : (k : ℕ) → k ≤ i → Settled T R l k × Settled T R r k) where
  -- right is broken everywhere in the window
  since_none : ((k : ℕ) → k ≤ i → Inside w (time_at R i - time_at R k) → Certified T R (Broken r k)) → Certified T R (Broken n i)
  since_none h =
      elim (dec_le w.from (time_at R i - time_at R 0)) [
        | yes le ↦ build T R (rule_22 at in-log le)
            (map_all (Certified T R) (Broken r) _ (keep_all (λ k. Certified T R (Broken r k)) _ _ (range_all _ 0 i (λ k lo hi t. h k hi (test_inside w _ t)))))
        | no gt ↦ build T R (rule_23 at in-log (omega arith)) tt
      ]

  abbrev LeftAfter : ℕ → Type 0
  LeftAfter j = (k : ℕ) → j < k → k ≤ i → Certified T R (Held l k)

  abbrev RightFrom : ℕ → Type 0
  RightFrom j = (k : ℕ) → j ≤ k → k ≤ i → w.from ≤ time_at R i - time_at R k → Certified T R (Broken r k)

  -- the rows before j are past the window
  since_past : (j : ℕ) → j ≤ i → Past w.to (time_at R i - time_at R j) → RightFrom (suc j) → Certified T R (Broken n i)
  since_past j le past right =
      since_none (λ k hi ins. elim (dec_lt j k) [
        | yes lt ↦ right k lt hi ins.0
        | no ge ↦ let m = rising k j (omega arith) (omega arith) in absurd (past_not w.to _ ins.1 (past_up w.to _ _ (omega arith) past))
      ])

  -- right is ruled at j: held ends the search
  since_right : (j : ℕ) → j ≤ i → UpTo w.to (time_at R i - time_at R j) → LeftAfter j → RightFrom (suc j) → Certified T R (Held n i) ⊎ RightFrom j
  since_right j le up left right =
      elim (dec_le w.from (time_at R i - time_at R j)) [
        | no lt ↦ inr (λ k lo hi fr. elim (ℕ_discrete j k) [ yes e ↦ absurd (lt (rw e fr)) | no ne ↦ right k (omega arith) hi fr ])
        | yes fr ↦ elim (settled j le).1 [
          | inl y ↦ inl (build T R (rule_20 at in-log le (fr, up)) (y, map_all (Certified T R) (Held l) _ (range_all _ (j + 1) i (λ k lo hi. left k (omega arith) hi))))
          | inr b ↦ inr (λ k lo hi fr. elim (ℕ_discrete j k) [ yes e ↦ subst (λ k. Certified T R (Broken r k)) e b | no ne ↦ right k (omega arith) hi fr ])
        ]
      ]

  -- left is broken at suc j
  since_left : (j : ℕ) → suc j ≤ i → Certified T R (Broken l (suc j)) → RightFrom (suc j) → Certified T R (Broken n i)
  since_left j le b right =
      elim (up_or_past w.to (time_at R i - time_at R j)) [
        | inr past ↦ since_past j (omega arith) past right
        | inl up ↦ elim (dec_le w.from (time_at R i - time_at R 0)) [
          | no gt ↦ build T R (rule_23 at in-log (omega arith)) tt
          | yes fr ↦ let e : suc j - 1 ≡ j = omega arith in
              build T R (rule_21 at in-log (omega arith) le (rw e up) fr)
              (b, map_all (Certified T R) (Broken r) _ (keep_all (λ k. Certified T R (Broken r k)) _ _ (range_all _ (suc j) i (λ k lo hi t. right k lo hi (leb→le _ _ t)))))
        ]
      ]

  since_down : (j : ℕ) → j ≤ i → LeftAfter j → RightFrom (suc j) → Settled T R n i
  since_down zero le left right =
      elim (up_or_past w.to (time_at R i - time_at R zero)) [
        | inr past ↦ inr (since_past zero le past right)
        | inl up ↦ elim (since_right zero le up left right) [
          | inl y ↦ inl y
          | inr right ↦ inr (since_none (λ k hi ins. right k (omega arith) hi ins.0))
        ]
      ]
  since_down (suc j) le left right =
      elim (up_or_past w.to (time_at R i - time_at R (suc j))) [
        | inr past ↦ inr (since_past (suc j) le past right)
        | inl up ↦ elim (since_right (suc j) le up left right) [
          | inl y ↦ inl y
          | inr right ↦ elim (settled (suc j) le).0 [
            | inl a ↦ since_down j (omega arith)
                (λ k lo hi. elim (ℕ_discrete (suc j) k) [ yes e ↦ subst (λ k. Certified T R (Held l k)) e a | no ne ↦ left k (omega arith) hi ]) right
            | inr b ↦ inr (since_left j le b right)
          ]
        ]
      ]

  since_settled : Settled T R n i
  since_settled = since_down i (le_refl i) (λ k lo hi. absurd (omega arith)) (λ k lo hi. absurd (omega arith))

module _ (T : Rules) (R : List Row) (rising : NeverFalls R) (n i l r : ℕ) (w : Window) (at : LineIs T n (until w l r)) (in-log : i < length R)
    (closed : Past w.to (time_at R (length R - 1) - time_at R i))
    (settled : (k : ℕ) → i ≤ k → k < length R → UpTo w.to (time_at R k - time_at R i) → Settled T R l k × Settled T R r k) where
  until_none : ((k : ℕ) → i ≤ k → k < length R → Inside w (time_at R k - time_at R i) → Certified T R (Broken r k)) → Certified T R (Broken n i)
  until_none h =
      build T R (rule_26 at in-log closed)
      (map_all (Certified T R) (Broken r) _ (keep_all (λ k. Certified T R (Broken r k)) _ _ (run_all _ i (length R - i) (λ k lo hi t. h k lo (omega arith) (test_inside w _ t)))))

  abbrev LeftBelow : ℕ → Type 0
  LeftBelow j = (k : ℕ) → i ≤ k → k < j → Certified T R (Held l k)

  abbrev RightBelow : ℕ → Type 0
  RightBelow j = (k : ℕ) → i ≤ k → k < j → w.from ≤ time_at R k - time_at R i → Certified T R (Broken r k)

  until_right : (j : ℕ) → i ≤ j → j < length R → UpTo w.to (time_at R j - time_at R i) → LeftBelow j → RightBelow j → Certified T R (Held n i) ⊎ RightBelow (suc j)
  until_right j le lt up left right =
      elim (dec_le w.from (time_at R j - time_at R i)) [
        | no gt ↦ inr (λ k lo hi fr. elim (ℕ_discrete j k) [ yes e ↦ absurd (gt (rw e fr)) | no ne ↦ right k lo (omega arith) fr ])
        | yes fr ↦ elim (settled j le lt up).1 [
          | inl y ↦ inl (build T R (rule_24 at le lt (fr, up)) (y, map_all (Certified T R) (Held l) _ (run_all _ i (j - i) (λ k lo hi. left k lo (omega arith)))))
          | inr b ↦ inr (λ k lo hi fr. elim (ℕ_discrete j k) [ yes e ↦ subst (λ k. Certified T R (Broken r k)) e b | no ne ↦ right k lo (omega arith) fr ])
        ]
      ]

  until_up : (m j : ℕ) → j + m ≡ length R → i ≤ j → LeftBelow j → RightBelow j → Settled T R n i
  until_up zero j e le left right = inr (until_none (λ k lo hi ins. right k lo (omega arith) ins.0))
  until_up (suc m) j e le left right =
      elim (up_or_past w.to (time_at R j - time_at R i)) [
        | inr past ↦ inr (until_none (λ k lo hi ins. elim (dec_lt k j) [
          | yes lt ↦ right k lo lt ins.0
          | no ge ↦ let m = rising j k (omega arith) hi in absurd (past_not w.to _ ins.1 (past_up w.to _ _ (omega arith) past))
        ]))
        | inl up ↦ elim (until_right j le (omega arith) up left right) [
          | inl y ↦ inl y
          | inr right ↦ elim (settled j le (omega arith) up).0 [
            | inl a ↦ until_up m (suc j) (omega arith) (omega arith)
                (λ k lo hi. elim (ℕ_discrete j k) [ yes e ↦ subst (λ k. Certified T R (Held l k)) e a | no ne ↦ left k lo (omega arith) ]) right
            | inr b ↦ inr (build T R (rule_25 at le (omega arith) up)
                (b, map_all (Certified T R) (Broken r) _ (keep_all (λ k. Certified T R (Broken r k)) _ _ (range_all _ i j (λ k lo hi t. right k lo (omega arith) (leb→le _ _ t))))))
          ]
        ]
      ]

  until_settled : Settled T R n i
  until_settled = until_up (length R - i) i (omega arith) (le_refl i) (λ k lo hi. absurd (omega arith)) (λ k lo hi. absurd (omega arith))

module _ (T : Rules) (R : List Row) (rising : NeverFalls R) where
  by_line :
      (n i : ℕ) → i < length R → (l : Line) → LineIs T n l → Earlier n l → Reach R (shape (formula T) l) i →
      ((m : ℕ) → m < n → (k : ℕ) → k < length R → Reach R (formula T m) k → Settled T R m k) → Settled T R n i
  by_line n i in-log (mark m) at e h ih =
      elim (cases_Bool (stands (row_at R i) m)) [
        | inl s ↦ inl (build T R (rule_1 at in-log (test_stands (row_at R i) m (yes_true s))) tt)
        | inr s ↦ inr (build T R (rule_2 at in-log (λ h. not_true s (stands_test (row_at R i) m h))) tt)
      ]
  by_line n i in-log (neg l) at e h ih =
      elim (ih l e i in-log h) [ inl y ↦ inr (build T R (rule_4 at in-log) (y, tt)) | inr b ↦ inl (build T R (rule_3 at in-log) (b, tt)) ]
  by_line n i in-log (and l r) at e h ih =
      elim (ih l e.0 i in-log h.0) [
        | inr b ↦ inr (build T R (rule_6 at in-log) (b, tt))
        | inl a ↦ elim (ih r e.1 i in-log h.1) [
          | inr b ↦ inr (build T R (rule_7 at in-log) (b, tt))
          | inl b ↦ inl (build T R (rule_5 at in-log) (a, (b, tt)))
        ]
      ]
  by_line n i in-log (or l r) at e h ih =
      elim (ih l e.0 i in-log h.0) [
        | inl b ↦ inl (build T R (rule_8 at in-log) (b, tt))
        | inr a ↦ elim (ih r e.1 i in-log h.1) [
          | inl b ↦ inl (build T R (rule_9 at in-log) (b, tt))
          | inr b ↦ inr (build T R (rule_10 at in-log) (a, (b, tt)))
        ]
      ]
  by_line n i in-log (previous w l) at e h ih =
      elim h [
        | inl z ↦ inr (build T R (rule_15 at in-log z) tt)
        | inr h ↦ elim (ℕ_discrete i 0) [
          | yes z ↦ inr (build T R (rule_15 at in-log z) tt)
          | no nz ↦ elim (ih l e (i - 1) (omega arith) h) [
            | inr b ↦ inr (build T R (rule_12 at in-log (omega arith)) (b, tt))
            | inl y ↦ elim (dec_le w.from (time_at R i - time_at R (i - 1))) [
              | no lt ↦ inr (build T R (rule_13 at in-log (omega arith) (omega arith)) tt)
              | yes fr ↦ elim (up_or_past w.to (time_at R i - time_at R (i - 1))) [
                | inl up ↦ inl (build T R (rule_11 at in-log (omega arith) (fr, up)) (y, tt))
                | inr past ↦ inr (build T R (rule_14 at in-log (omega arith) past) tt)
              ]
            ]
          ]
        ]
      ]
  by_line n i in-log (next w l) at e h ih =
      elim (ih l e (i + 1) h.0 h.1) [
        | inr b ↦ inr (build T R (rule_17 at in-log) (b, tt))
        | inl y ↦ elim (dec_le w.from (time_at R (i + 1) - time_at R i)) [
          | no lt ↦ inr (build T R (rule_18 at h.0 (omega arith)) tt)
          | yes fr ↦ elim (up_or_past w.to (time_at R (i + 1) - time_at R i)) [
            | inl up ↦ inl (build T R (rule_16 at h.0 (fr, up)) (y, tt))
            | inr past ↦ inr (build T R (rule_19 at h.0 past) tt)
          ]
        ]
      ]
  by_line n i in-log (since w l r) at e h ih =
      since_settled T R rising n i l r w at in-log (λ k le. (ih l e.0 k (omega arith) (h k le).0, ih r e.1 k (omega arith) (h k le).1))
  by_line n i in-log (until w l r) at e h ih =
      until_settled T R rising n i l r w at in-log h.0 (λ k lo hi up. (ih l e.0 k hi (h.1 k lo hi up).0, ih r e.1 k hi (h.1 k lo hi up).1))

  settled_below : WellFormed T → (d n : ℕ) → n < d → n < length T → (i : ℕ) → i < length R → Reach R (formula T n) i → Settled T R n i
  settled_below wf zero n p q i in-log h = absurd (omega arith)
  settled_below wf (suc d) n p q i in-log h =
      by_line n i in-log (line_at T n) (record { within = q; is = refl }) (earlier_at T wf n q) (subst (λ f. Reach R f i) (formula_at T wf n q) h)
      (λ m lt k. settled_below wf d m (omega arith) (omega arith) k)

  pub complete : WellFormed T → (n : ℕ) → n < length T → (i : ℕ) → i < length R → Reach R (formula T n) i → Settled T R n i
  complete wf n = settled_below wf (suc n) n (omega arith)
