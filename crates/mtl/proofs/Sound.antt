use Rattle.std.proofs.Common.{◌≡◌, ℕ, zero, suc, ◌+◌, ◌-◌, ◌<◌, ◌≤◌, T as Yes, leb, List, length, sym, ap, ◌∙◌, subst, inl, inr, le_refl, arith, le→leb}
use native.Mathlib.Decide.{dec_lt, ℕ_discrete}
use Rattle.mtl.specs.Certificates.{Cert, Certs, node, none, more}
use Rattle.mtl.specs.Claims.{Claim, Held, Broken, Node}
use Rattle.mtl.specs.Continuations.{Continues, TrueIn}
use Rattle.mtl.specs.Follows.{Follows, rule_1, rule_2, rule_3, rule_4, rule_5, rule_6, rule_7, rule_8, rule_9, rule_10, rule_11, rule_12, rule_13, rule_14, rule_15, rule_16, rule_17, rule_18, rule_19, rule_20, rule_21, rule_22, rule_23, rule_24, rule_25, rule_26, LineIs}
use Rattle.mtl.specs.Formulas.{shape, formula, Truth}
use Rattle.mtl.specs.Lines.{Line, mark, neg, and, or, previous, next, since, until, Rules, WellFormed}
use Rattle.mtl.specs.Rows.{Row, time_at}
use Rattle.mtl.specs.Windows.{Past, Inside, inside}
use Rattle.mtl.specs.Lists.{AllOf}
use Rattle.mtl.proofs.Lists.{all_map, all_keep, all_run, all_range}
use Rattle.mtl.proofs.Unrolled.{formula_at}
use Rattle.mtl.proofs.Tests.{past_not, past_up, inside_test}

-- the formula of a line
pub line_formula : (T : Rules) → WellFormed T → (n : ℕ) (l : Line) → LineIs T n l → formula T n ≡ shape (formula T) l
line_formula T wf n l h = formula_at T wf n h.within ∙ ap (shape (formula T)) h.is

module _ (T : Rules) (wf : WellFormed T) (R : List Row) (ρ : ℕ → Row) (c : Continues R ρ) where
  holds : (n i : ℕ) (l : Line) → LineIs T n l → Truth ρ (shape (formula T) l) i → Truth ρ (formula T n) i
  holds n i l e h = subst (λ f. Truth ρ f i) (sym (line_formula T wf n l e)) h

  fails : (n i : ℕ) (l : Line) → LineIs T n l → (Truth ρ (shape (formula T) l) i → ⊥) → Truth ρ (formula T n) i → ⊥
  fails n i l e h t = h (subst (λ f. Truth ρ f i) (line_formula T wf n l e) t)

  time_is : (i : ℕ) → i < length R → time_at R i ≡ (ρ i).time
  time_is i h = sym (ap (λ (r : Row). r.time) (c.begins i h))

  climbs : (i j : ℕ) → i ≤ j → (ρ i).time ≤ (ρ j).time
  climbs i zero h = let e : i ≡ zero = omega arith in rw e (le_refl _)
  climbs i (suc j) h =
      elim (ℕ_discrete i (suc j)) [ yes e ↦ rw e (le_refl _) | no ne ↦ let a : (ρ i).time ≤ (ρ j).time = climbs i j (omega arith) in let b = c.rises j in omega arith ]

  -- a fact on a difference of times, read in the log, holds in the continuation, and back
  there : (P : ℕ → Type 0) (i j : ℕ) → i < length R → j < length R → P (time_at R i - time_at R j) → P ((ρ i).time - (ρ j).time)
  there P i j p q h = rw (time_is i p, time_is j q) at h

  back : (P : ℕ → Type 0) (i j : ℕ) → i < length R → j < length R → P ((ρ i).time - (ρ j).time) → P (time_at R i - time_at R j)
  back P i j p q h = rw (time_is i p, time_is j q) h

  step : (rule : ℕ) (d : Claim) (kids : List Claim) → Follows T R rule d kids → AllOf (TrueIn T ρ) kids → TrueIn T ρ d
  step _ _ _ (rule_1 {n = n} {i = i} {m = m} at in-log s) h = holds n i (mark m) at (rw (c.begins i in-log) s)
  step _ _ _ (rule_2 {n = n} {i = i} {m = m} at in-log s) h = fails n i (mark m) at (λ t. s (rw (c.begins i in-log) at t))
  step _ _ _ (rule_3 {n = n} {i = i} {l = l} at in-log) h = holds n i (neg l) at h.0
  step _ _ _ (rule_4 {n = n} {i = i} {l = l} at in-log) h = fails n i (neg l) at (λ t. t h.0)
  step _ _ _ (rule_5 {n = n} {i = i} {l = l} {r = r} at in-log) h = holds n i (and l r) at (h.0, h.1.0)
  step _ _ _ (rule_6 {n = n} {i = i} {l = l} {r = r} at in-log) h = fails n i (and l r) at (λ t. h.0 t.0)
  step _ _ _ (rule_7 {n = n} {i = i} {l = l} {r = r} at in-log) h = fails n i (and l r) at (λ t. h.0 t.1)
  step _ _ _ (rule_8 {n = n} {i = i} {l = l} {r = r} at in-log) h = holds n i (or l r) at (inl h.0)
  step _ _ _ (rule_9 {n = n} {i = i} {l = l} {r = r} at in-log) h = holds n i (or l r) at (inr h.0)
  step _ _ _ (rule_10 {n = n} {i = i} {l = l} {r = r} at in-log) h = fails n i (or l r) at (λ t. elim t [ inl a ↦ h.0 a | inr b ↦ h.1.0 b ])
  step _ _ _ (rule_11 {n = n} {i = i} {l = l} {w = w} at in-log pos ins) h =
      holds n i (previous w l) at (pos, there (Inside w) i (i - 1) in-log (omega arith) ins, h.0)
  step _ _ _ (rule_12 {n = n} {i = i} {l = l} {w = w} at in-log pos) h = fails n i (previous w l) at (λ t. h.0 t.2)
  step _ _ _ (rule_13 {n = n} {i = i} {l = l} {w = w} at in-log pos lt) h =
      fails n i (previous w l) at (λ t. let b = there (λ d. d < w.from) i (i - 1) in-log (omega arith) lt in omega (arith, t.1.0))
  step _ _ _ (rule_14 {n = n} {i = i} {l = l} {w = w} at in-log pos past) h =
      fails n i (previous w l) at (λ t. past_not w.to _ t.1.1 (there (Past w.to) i (i - 1) in-log (omega arith) past))
  step _ _ _ (rule_15 {n = n} {i = i} {l = l} {w = w} at in-log z) h = fails n i (previous w l) at (λ t. omega (arith, t.0))
  step _ _ _ (rule_16 {n = n} {i = i} {l = l} {w = w} at in-log ins) h =
      holds n i (next w l) at (there (Inside w) (i + 1) i in-log (omega arith) ins, h.0)
  step _ _ _ (rule_17 {n = n} {i = i} {l = l} {w = w} at in-log) h = fails n i (next w l) at (λ t. h.0 t.1)
  step _ _ _ (rule_18 {n = n} {i = i} {l = l} {w = w} at in-log lt) h =
      fails n i (next w l) at (λ t. let b = there (λ d. d < w.from) (i + 1) i in-log (omega arith) lt in omega (arith, t.0.0))
  step _ _ _ (rule_19 {n = n} {i = i} {l = l} {w = w} at in-log past) h =
      fails n i (next w l) at (λ t. past_not w.to _ t.0.1 (there (Past w.to) (i + 1) i in-log (omega arith) past))
  step _ _ _ (rule_20 {n = n} {i = i} {l = l} {r = r} {j = j} {w = w} at in-log le ins) h =
      holds n i (since w l r) at (
        j,
        le,
        there (Inside w) i j in-log (omega arith) ins,
        h.0,
        λ k lo hi. all_range (λ k. TrueIn T ρ (Held l k)) (j + 1) i (all_map (TrueIn T ρ) (Held l) _ h.1) k (omega arith) hi,
      )
  step _ _ _ (rule_21 {n = n} {i = i} {l = l} {r = r} {j = j} {w = w} at in-log pos le _ _) h =
      fails n i (since w l r) at
      (λ t. elim (dec_lt t.0 j) [
        | yes lt ↦ h.0 (t.4 j lt le)
        | no ge ↦ all_range (λ k. Yes (leb w.from (time_at R i - time_at R k)) → TrueIn T ρ (Broken r k)) j i
            (all_keep (λ k. TrueIn T ρ (Broken r k)) _ _ (all_map (TrueIn T ρ) (Broken r) _ h.1))
            t.0 (omega arith) t.1 (le→leb _ _ (back (λ d. w.from ≤ d) i t.0 in-log (omega (arith, t.1)) t.2.0)) t.3
      ])
  step _ _ _ (rule_22 {n = n} {i = i} {l = l} {r = r} {w = w} at in-log _) h =
      fails n i (since w l r) at
      (λ t. all_range (λ k. Yes (inside w (time_at R i - time_at R k)) → TrueIn T ρ (Broken r k)) 0 i
      (all_keep (λ k. TrueIn T ρ (Broken r k)) _ _ (all_map (TrueIn T ρ) (Broken r) _ h))
      t.0 (omega arith) t.1 (inside_test w _ (back (Inside w) i t.0 in-log (omega (arith, t.1)) t.2)) t.3)
  step _ _ _ (rule_23 {n = n} {i = i} {l = l} {r = r} {w = w} at in-log lt) h =
      fails n i (since w l r) at
      (λ t. let b = there (λ d. d < w.from) i 0 in-log (omega arith) lt in let m = climbs 0 t.0 (omega arith) in omega (arith, t.2.0))
  step _ _ _ (rule_24 {n = n} {i = i} {l = l} {r = r} {j = j} {w = w} at le in-log ins) h =
      holds n i (until w l r) at (
        j,
        le,
        there (Inside w) j i in-log (omega arith) ins,
        h.0,
        λ k lo hi. all_run (λ k. TrueIn T ρ (Held l k)) i (j - i) (all_map (TrueIn T ρ) (Held l) _ h.1) k lo (omega arith),
      )
  step _ _ _ (rule_25 {n = n} {i = i} {l = l} {r = r} {j = j} {w = w} at le in-log _) h =
      fails n i (until w l r) at
      (λ t. elim (dec_lt j t.0) [
        | yes lt ↦ h.0 (t.4 j le lt)
        | no ge ↦ all_range (λ k. Yes (leb w.from (time_at R k - time_at R i)) → TrueIn T ρ (Broken r k)) i j
            (all_keep (λ k. TrueIn T ρ (Broken r k)) _ _ (all_map (TrueIn T ρ) (Broken r) _ h.1))
            t.0 t.1 (omega arith) (le→leb _ _ (back (λ d. w.from ≤ d) t.0 i (omega arith) (omega arith) t.2.0)) t.3
      ])
  step _ _ _ (rule_26 {n = n} {i = i} {l = l} {r = r} {w = w} at in-log past) h =
      fails n i (until w l r) at
      (λ t. elim (dec_lt t.0 (length R)) [
        | yes lt ↦ all_run (λ k. Yes (inside w (time_at R k - time_at R i)) → TrueIn T ρ (Broken r k)) i (length R - i)
            (all_keep (λ k. TrueIn T ρ (Broken r k)) _ _ (all_map (TrueIn T ρ) (Broken r) _ h))
            t.0 t.1 (omega arith) (inside_test w _ (back (Inside w) t.0 i lt in-log t.2)) t.3
        | no ge ↦
            let m = climbs (length R - 1) t.0 (omega arith) in
            past_not w.to _ t.2.1
            (past_up w.to _ _ (omega arith) (there (Past w.to) (length R - 1) i (omega arith) in-log past))
      ])

  mutual
    pub sound : {d : Claim} {ns : List Node} → Cert T R d ns → TrueIn T ρ d
    sound (node f cs) = step _ _ _ f (sounds cs)

    pub sounds : {ds : List Claim} {ns : List Node} → Certs T R ds ns → AllOf (TrueIn T ρ) ds
    sounds none = tt
    sounds (more d ds) = (sound d, sounds ds)
