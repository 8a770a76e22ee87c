use Rattle.std.proofs.Common.{◌≡◌, ℕ, zero, suc, ◌<◌, ◌≤◌, min, Bool, true, false, cond, not, T as Yes, leb, ◌⊎◌, List, [], ◌∷◌, length, Some, None, Option, sym, refl, ap, ◌∙◌, subst, ap₂, inl, inr, arith, le→leb, leb→le}
use lib.Dec.{nleb→lt}
use Rattle.mtl.specs.Cells.{cell, sum_cells, best_cell, first_of, planned}
use Rattle.mtl.specs.Claims.{Claim, Node}
use Rattle.mtl.specs.Forms.{Step, steps}
use Rattle.mtl.specs.Lines.{Rules, WellFormed}
use Rattle.mtl.specs.Rows.{Row}
use Rattle.mtl.specs.Shortest.{attempt, shorter, of_all, of_any, certificate}
use Rattle.mtl.proofs.Filled.{Filled, sum_cells_lem, close, filled_chained, filled_any, best_cell_lem, certificate_at, on_kids}
use Rattle.mtl.specs.Lists.{AllOf}

-- the first of two is taken by their cells as by their sizes, if the smaller is below the cap
pick_first : (o p : Option (List Node)) → Filled o → Filled p → cell (shorter o p) ≤ 4096 →
    ((first_of (cell o) (cell p) ≡ true) × (shorter o p ≡ o)) ⊎ ((first_of (cell o) (cell p) ≡ false) × (shorter o p ≡ p))
pick_first None p h k l = inr (refl, refl)
pick_first (Some a) None h k l = inl (go (min (length a) 4097) (omega arith), refl)
  where
    go : (x : ℕ) → 1 ≤ x → first_of x 0 ≡ true
    go zero h = absurd (omega arith)
    go (suc x) h = refl
pick_first (Some a) (Some b) h k l = at (leb (length a) (length b)) (leb→le _ _) (nleb→lt _ _) l
  where
    test : (x y : ℕ) → 1 ≤ x → 1 ≤ y → (x ≤ y → first_of x y ≡ true) × (y < x → first_of x y ≡ false)
    test zero y p q = absurd (omega arith)
    test (suc x) zero p q = absurd (omega arith)
    test (suc x) (suc y) p q = (λ h. go (leb (suc x) (suc y)) (le→leb _ _ h), λ h. no_go (leb (suc x) (suc y)) (leb→le _ _) h)
      where
        go : (b : Bool) → Yes b → b ≡ true
        go true t = refl
        go false t = absurd t

        no_go : (b : Bool) → (Yes b → suc x ≤ suc y) → suc y < suc x → b ≡ false
        no_go true f h = let z = f tt in absurd (omega arith)
        no_go false f h = refl

    at : (t : Bool) → (Yes t → length a ≤ length b) → (Yes (not t) → length b < length a) → cell (cond t (Some a) (Some b)) ≤ 4096 →
        ((first_of (cell (Some a)) (cell (Some b)) ≡ true) × (cond t (Some a) (Some b) ≡ Some a)) ⊎
        ((first_of (cell (Some a)) (cell (Some b)) ≡ false) × (cond t (Some a) (Some b) ≡ Some b))
    at true f g l = let z = f tt in inl ((test (min (length a) 4097) (min (length b) 4097) (omega arith) (omega arith)).0 (omega arith), refl)
    at false f g l = let z = g tt in inr ((test (min (length a) 4097) (min (length b) 4097) (omega arith) (omega arith)).1 (omega arith), refl)

-- what is written by the planned step is what is written
planned_is : (f : Claim → Option (List Node)) (g : Claim → ℕ) (c : Claim) (ss : List Step) → AllOf (λ s. AllOf (λ k. (g k ≡ cell (f k)) × Filled (f k)) s.kids) ss →
    1 ≤ cell (of_any f c ss) → cell (of_any f c ss) ≤ 4096 → (s : Step) × (planned g ss ≡ Some s) × (of_any f c ss ≡ attempt f c s)
unfolding planned of_any
planned_is f g c [] h lo hi = absurd (omega arith)
planned_is f g c (s ∷ ss) h lo hi =
    let x : sum_cells g 1 s.kids ≡ cell (attempt f c s) = sum_cells_lem f g 1 s.kids (omega arith) h.0 ∙ close (of_all f s.kids) _ in
    let y : best_cell g ss ≡ cell (of_any f c ss) = best_cell_lem f g c ss h.1 in
    let e : first_of (sum_cells g 1 s.kids) (best_cell g ss) ≡ first_of (cell (attempt f c s)) (cell (of_any f c ss)) = ap₂ first_of x y in
    elim (pick_first (attempt f c s) (of_any f c ss) (filled_chained (of_all f s.kids) _) (filled_any f c ss) hi) [
      | inl z ↦ (s, ap (λ b. cond b (Some s) (planned g ss)) (e ∙ z.0), z.1)
      | inr z ↦
          let r = planned_is f g c ss h.1 (subst (λ o. 1 ≤ cell o) z.1 lo) (subst (λ o. cell o ≤ 4096) z.1 hi) in
          (r.0, ap (λ b. cond b (Some s) (planned g ss)) (e ∙ z.0) ∙ r.1, z.1 ∙ r.2)
    ]

module _ (T : Rules) (wf : WellFormed T) (R : List Row) where
  pub plan_at : (g : Claim → ℕ) (c : Claim) → ((k : Claim) → k.line < c.line → g k ≡ cell (certificate T R k)) →
      1 ≤ cell (certificate T R c) → cell (certificate T R c) ≤ 4096 →
      (s : Step) × (planned g (steps T R c) ≡ Some s) × (certificate T R c ≡ attempt (certificate T R) c s)
  plan_at g c h lo hi =
      let e = certificate_at T wf R c in
      let r = planned_is (certificate T R) g c (steps T R c)
      (on_kids T wf R _ c (λ k l. (h k l, subst Filled (sym (certificate_at T wf R k)) (filled_any (certificate T R) k (steps T R k)))))
      (subst (λ o. 1 ≤ cell o) e lo) (subst (λ o. cell o ≤ 4096) e hi) in
      (r.0, r.1, e ∙ r.2)
