-- The rules that leave no choice of j.
use Rattle.std.proofs.Common.{◌≡◌, ℕ, ◌+◌, ◌-◌, ◌*◌, ◌<◌, ◌≤◌, Bool, true, false, not, ◌&&◌, T as Yes, eqb, ltb, List, length, sym, ap, ◌∙◌, subst, ap₂, arith, eqb→eq, ltb→lt, lt→ltb}
use Rattle.mtl.specs.Cells.{sum_cells, add_cell}
use Rattle.mtl.specs.Claims.{Held, Broken}
use Rattle.mtl.specs.Forms.{forms}
use Rattle.mtl.specs.Ranges.{run}
use Rattle.mtl.specs.Rows.{row_at, time_at, stands}
use Rattle.mtl.specs.Windows.{inside, past}
use Rattle.mtl.specs.declared.line.Line.TheVariants.{Mark, Not, And, Or, Previous, Next}
use Rattle.mtl.specs.declared.line.Window.{Window}
use Rattle.mtl.specs.declared.row.Row.{Row}
use Rattle.mtl.specs.declared.ruling.Claim.{Claim}
use Rattle.mtl.specs.declared.ruling.Ruling.TheVariants.{Held as held, Broken as broken}
use Rattle.writer.specs.Choice.{Best, none, merge, offer, of_ways, of_forms}
use Rattle.writer.proofs.Adding.{offer_tight}
use Rattle.writer.proofs.Offers.{true_of, false_of, and_true}

one : (b : Bool) (s p : ℕ) → offer b s p ≡ merge (merge (offer b s p) none) none
one b s p = sym (ap (λ x. merge x none) (offer_tight b s p) ∙ offer_tight b s p)

two : (b : Bool) (s p : ℕ) (x y : Best) → x ≡ y → merge (offer b s p) x ≡ merge (merge (offer b s p) none) y
two b s p x y e = ap₂ merge (sym (offer_tight b s p)) e

module _ (g : Claim → ℕ) (R : List Row) (i : ℕ) where
  pub mark_held : (m : ℕ) → offer (stands (row_at R i) m) 1 (256 * 1 + 0) ≡ of_forms g held (forms R i (Mark m))
  unfolding forms of_forms of_ways run sum_cells
  mark_held m = one (stands (row_at R i) m) 1 (256 * 1 + 0)

  pub mark_broken : (m : ℕ) → offer (not (stands (row_at R i) m)) 1 (256 * 2 + 0) ≡ of_forms g broken (forms R i (Mark m))
  unfolding forms of_forms of_ways run sum_cells
  mark_broken m = one (not (stands (row_at R i) m)) 1 (256 * 2 + 0)

  pub not_held : (l : ℕ) → offer true (add_cell 1 (g (Broken l i))) (256 * 3 + 0) ≡ of_forms g held (forms R i (Not l))
  unfolding forms of_forms of_ways run sum_cells
  not_held l = one true (add_cell 1 (g (Broken l i))) (256 * 3 + 0)

  pub not_broken : (l : ℕ) → offer true (add_cell 1 (g (Held l i))) (256 * 4 + 0) ≡ of_forms g broken (forms R i (Not l))
  unfolding forms of_forms of_ways run sum_cells
  not_broken l = one true (add_cell 1 (g (Held l i))) (256 * 4 + 0)

  pub and_held : (l r : ℕ) → offer true (add_cell (add_cell 1 (g (Held l i))) (g (Held r i))) (256 * 5 + 0) ≡ of_forms g held (forms R i (And l r))
  unfolding forms of_forms of_ways run sum_cells
  and_held l r = one true (add_cell (add_cell 1 (g (Held l i))) (g (Held r i))) (256 * 5 + 0)

  pub and_broken : (l r : ℕ) → merge (offer true (add_cell 1 (g (Broken l i))) (256 * 6 + 0)) (offer true (add_cell 1 (g (Broken r i))) (256 * 7 + 0)) ≡ of_forms g broken (forms R i (And l r))
  unfolding forms of_forms of_ways run sum_cells
  and_broken l r = two true (add_cell 1 (g (Broken l i))) (256 * 6 + 0) _ _ (one true (add_cell 1 (g (Broken r i))) (256 * 7 + 0))

  pub or_held : (l r : ℕ) → merge (offer true (add_cell 1 (g (Held l i))) (256 * 8 + 0)) (offer true (add_cell 1 (g (Held r i))) (256 * 9 + 0)) ≡ of_forms g held (forms R i (Or l r))
  unfolding forms of_forms of_ways run sum_cells
  or_held l r = two true (add_cell 1 (g (Held l i))) (256 * 8 + 0) _ _ (one true (add_cell 1 (g (Held r i))) (256 * 9 + 0))

  pub or_broken : (l r : ℕ) → offer true (add_cell (add_cell 1 (g (Broken l i))) (g (Broken r i))) (256 * 10 + 0) ≡ of_forms g broken (forms R i (Or l r))
  unfolding forms of_forms of_ways run sum_cells
  or_broken l r = one true (add_cell (add_cell 1 (g (Broken l i))) (g (Broken r i))) (256 * 10 + 0)

  module _ (w : Window) (l : ℕ) where
    pub previous_held : 0 < i → offer (inside w (time_at R i - time_at R (i - 1))) (add_cell 1 (g (Held l (i - 1)))) (256 * 11 + 0) ≡ of_forms g held (forms R i (Previous w l))
    unfolding forms of_forms of_ways run sum_cells
    previous_held h =
        ap (λ b. offer b (add_cell 1 (g (Held l (i - 1)))) (256 * 11 + 0)) (sym (and_true (ltb 0 i) _ (lt→ltb 0 i h))) ∙
        one (ltb 0 i && inside w (time_at R i - time_at R (i - 1))) (add_cell 1 (g (Held l (i - 1)))) (256 * 11 + 0)

    pub previous_held_first : i ≡ 0 → none ≡ of_forms g held (forms R i (Previous w l))
    unfolding forms of_forms of_ways run sum_cells
    previous_held_first h =
        let f : ltb 0 i ≡ false = false_of _ (λ t. let z = ltb→lt 0 i t in omega arith) in
        sym (ap (λ b. merge (merge (offer (b && inside w (time_at R i - time_at R (i - 1))) (add_cell 1 (g (Held l (i - 1)))) (256 * 11 + 0)) none) none) f)

    pub previous_broken : 0 < i →
        merge (offer true (add_cell 1 (g (Broken l (i - 1)))) (256 * 12 + 0))
        (merge (offer (ltb (time_at R i - time_at R (i - 1)) w.from) 1 (256 * 13 + 0)) (offer (past w.to (time_at R i - time_at R (i - 1))) 1 (256 * 14 + 0))) ≡
        of_forms g broken (forms R i (Previous w l))
    unfolding forms of_forms of_ways run sum_cells
    previous_broken h =
        let t : true ≡ ltb 0 i = sym (true_of _ (lt→ltb 0 i h)) in
        let z : false ≡ eqb i 0 = sym (false_of _ (λ t. let z = eqb→eq i 0 t in omega arith)) in
        two true (add_cell 1 (g (Broken l (i - 1)))) (256 * 12 + 0) _ _
        (two (ltb (time_at R i - time_at R (i - 1)) w.from) 1 (256 * 13 + 0) _ _ (one (past w.to (time_at R i - time_at R (i - 1))) 1 (256 * 14 + 0))) ∙
        (λ k. merge (merge (offer (t k) (add_cell 1 (g (Broken l (i - 1)))) (256 * 12 + 0)) none)
        (merge (merge (offer (t k && ltb (time_at R i - time_at R (i - 1)) w.from) 1 (256 * 13 + 0)) none)
        (merge (merge (offer (t k && past w.to (time_at R i - time_at R (i - 1))) 1 (256 * 14 + 0)) none)
        (merge (merge (offer (z k) 1 (256 * 15 + 0)) none) none))))

    pub previous_broken_first : i ≡ 0 → offer true 1 (256 * 15 + 0) ≡ of_forms g broken (forms R i (Previous w l))
    unfolding forms of_forms of_ways run sum_cells
    previous_broken_first h =
        let t : false ≡ ltb 0 i = sym (false_of _ (λ t. let z = ltb→lt 0 i t in omega arith)) in
        let z : true ≡ eqb i 0 = sym (true_of _ (subst (λ x. Yes (eqb x 0)) (sym h) tt)) in
        (λ k. merge (merge (offer (t k) (add_cell 1 (g (Broken l (i - 1)))) (256 * 12 + 0)) none)
        (merge (merge (offer (t k && ltb (time_at R i - time_at R (i - 1)) w.from) 1 (256 * 13 + 0)) none)
        (merge (merge (offer (t k && past w.to (time_at R i - time_at R (i - 1))) 1 (256 * 14 + 0)) none)
        (merge (merge (offer (z k) 1 (256 * 15 + 0)) none) none))))

    pub next_held : i + 1 < length R → offer (inside w (time_at R (i + 1) - time_at R i)) (add_cell 1 (g (Held l (i + 1)))) (256 * 16 + 0) ≡ of_forms g held (forms R i (Next w l))
    unfolding forms of_forms of_ways run sum_cells
    next_held h =
        ap (λ b. offer b (add_cell 1 (g (Held l (i + 1)))) (256 * 16 + 0)) (sym (and_true (ltb (i + 1) (length R)) _ (lt→ltb _ _ h))) ∙
        one (ltb (i + 1) (length R) && inside w (time_at R (i + 1) - time_at R i)) (add_cell 1 (g (Held l (i + 1)))) (256 * 16 + 0)

    pub next_held_last : length R ≤ i + 1 → none ≡ of_forms g held (forms R i (Next w l))
    unfolding forms of_forms of_ways run sum_cells
    next_held_last h =
        let f : ltb (i + 1) (length R) ≡ false = false_of _ (λ t. let z = ltb→lt _ _ t in omega arith) in
        sym (ap (λ b. merge (merge (offer (b && inside w (time_at R (i + 1) - time_at R i)) (add_cell 1 (g (Held l (i + 1)))) (256 * 16 + 0)) none) none) f)

    pub next_broken : i + 1 < length R →
        merge (offer true (add_cell 1 (g (Broken l (i + 1)))) (256 * 17 + 0))
        (merge (offer (ltb (time_at R (i + 1) - time_at R i) w.from) 1 (256 * 18 + 0)) (offer (past w.to (time_at R (i + 1) - time_at R i)) 1 (256 * 19 + 0))) ≡
        of_forms g broken (forms R i (Next w l))
    unfolding forms of_forms of_ways run sum_cells
    next_broken h =
        let t : true ≡ ltb (i + 1) (length R) = sym (true_of _ (lt→ltb _ _ h)) in
        two true (add_cell 1 (g (Broken l (i + 1)))) (256 * 17 + 0) _ _
        (two (ltb (time_at R (i + 1) - time_at R i) w.from) 1 (256 * 18 + 0) _ _ (one (past w.to (time_at R (i + 1) - time_at R i)) 1 (256 * 19 + 0))) ∙
        (λ k. merge (merge (offer true (add_cell 1 (g (Broken l (i + 1)))) (256 * 17 + 0)) none)
        (merge (merge (offer (t k && ltb (time_at R (i + 1) - time_at R i) w.from) 1 (256 * 18 + 0)) none)
        (merge (merge (offer (t k && past w.to (time_at R (i + 1) - time_at R i)) 1 (256 * 19 + 0)) none) none)))

    pub next_broken_last : length R ≤ i + 1 → offer true (add_cell 1 (g (Broken l (i + 1)))) (256 * 17 + 0) ≡ of_forms g broken (forms R i (Next w l))
    unfolding forms of_forms of_ways run sum_cells
    next_broken_last h =
        let t : false ≡ ltb (i + 1) (length R) = sym (false_of _ (λ t. let z = ltb→lt _ _ t in omega arith)) in
        one true (add_cell 1 (g (Broken l (i + 1)))) (256 * 17 + 0) ∙
        (λ k. merge (merge (offer true (add_cell 1 (g (Broken l (i + 1)))) (256 * 17 + 0)) none)
        (merge (merge (offer (t k && ltb (time_at R (i + 1) - time_at R i) w.from) 1 (256 * 18 + 0)) none)
        (merge (merge (offer (t k && past w.to (time_at R (i + 1) - time_at R i)) 1 (256 * 19 + 0)) none) none)))
