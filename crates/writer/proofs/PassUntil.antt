-- The passes for until: the ways by the rows passed so far, the sums of their children, and what a pass ends with.
use Rattle.std.proofs.Common.{◌≡◌, ℕ, suc, ◌+◌, ◌-◌, ◌*◌, ◌<◌, ◌≤◌, true, ◌&&◌, List, ltb, leb, length, sym, refl, ap, ◌∙◌, ap₂, arith}
use Rattle.mtl.specs.Cells.{sum_cells, add_cell}
use Rattle.mtl.specs.Claims.{Held, Broken, each}
use Rattle.mtl.specs.Forms.{forms}
use Rattle.mtl.specs.Ranges.{run, range, keep}
use Rattle.mtl.specs.Windows.{up_to, past}
use Rattle.mtl.specs.declared.line.Line.TheVariants.{Until as until}
use Rattle.mtl.specs.declared.line.Window.{Window}
use Rattle.mtl.specs.declared.row.Row.{Row}
use Rattle.mtl.specs.declared.ruling.Claim.{Claim}
use Rattle.mtl.specs.declared.ruling.Ruling.TheVariants.{Held as held, Broken as broken}
use Rattle.writer.specs.Choice.{Best, none, merge, offer, add_if, of_ways, of_forms}
use Rattle.writer.specs.Passes.{ago, rule24, rule25, far_after, in_after}
use Rattle.writer.proofs.Adding.{up, sum_up, all_up, run_none, ways_tight}
use Rattle.writer.proofs.Offers.{way24, way25, held_until, broken_until}
use Rattle.writer.proofs.Outside.{past_not, past_outside, within, second_false, rest_after, idle_after, idle, none_after, offer_none, kept_none_after, keep_same, keep_after}

module _ (g : Claim → ℕ) (R : List Row) (i : ℕ) (w : Window) (l r : ℕ) where
  -- the least of the ways by the rows before j, and the sum of the children of later ones
  abbrev pub held_ways : ℕ → Best
  held_ways j = of_ways g (rule24 R i w l r) (run i (j - i))

  abbrev pub held_sum : ℕ → ℕ
  held_sum j = sum_cells g 1 (each held l (run i (j - i)))

  abbrev pub broken_ways : ℕ → Best
  broken_ways j = of_ways g (rule25 R i w l r) (run i (j - i))

  abbrev pub late_sum : ℕ → ℕ
  late_sum j = sum_cells g 1 (each broken r (keep (far_after R i w) (run i (j - i))))

  pub held_start : (none ≡ held_ways i) × (1 ≡ held_sum i)
  unfolding of_ways sum_cells
  held_start = let e = run_none i i (omega arith) in (ap (of_ways g (rule24 R i w l r)) (sym e), ap (λ xs. sum_cells g 1 (each held l xs)) (sym e))

  pub held_step : (j n sum : ℕ) (best way : Best) → n ≡ suc j → i ≤ j → j < length R → best ≡ held_ways j → sum ≡ held_sum j → up_to w.to (ago R j i) ≡ true →
      way ≡ offer (leb w.from (ago R j i)) (add_cell sum (g (Held r j))) (256 * 24 + j) → (merge best way ≡ held_ways n) × (add_cell sum (g (Held l j)) ≡ held_sum n)
  held_step j n sum best way e h q b s u k = (
    up g (rule24 R i w l r) i j n best way e h b (k ∙ ap (λ x. offer x (add_cell sum (g (Held r j))) (256 * 24 + j)) (within w (ago R j i) u) ∙ way24 g R i w l r j sum h q s),
    all_up g held l i j n sum e h s,
  )

  pub held_end : (end j : ℕ) (best : Best) → j ≡ end → i ≤ end → end ≤ length R → ((k : ℕ) → end ≤ k → k < length R → past w.to (ago R k i) ≡ true) → best ≡ held_ways j →
      best ≡ of_forms g held (forms R i (until w l r))
  held_end end j best e h q p b =
      b ∙ ap held_ways e ∙
      rest_after g (rule24 R i w l r) i (length R - end) end (length R) (omega arith) h (λ k lo hi. second_false (leb i k && ltb k (length R)) _ (past_outside w _ (p k lo hi))) ∙
      held_until g R i w l r

  pub held_stop : (j sum : ℕ) (best : Best) → i ≤ j → j ≤ length R → best ≡ held_ways j → sum ≡ held_sum j → sum ≡ 0 → best ≡ of_forms g held (forms R i (until w l r))
  held_stop j sum best h q b s z =
      b ∙
      idle_after g (rule24 R i w l r) i (length R - j) j (length R) (omega arith) h
      (λ k lo hi. idle g (rule24 R i w l r) k (Held r k) (each held l (run i (k - i))) refl (none_after g held l i (k - j) j k (omega arith) h (sym s ∙ z))) ∙
      held_until g R i w l r

  pub broken_start : (none ≡ broken_ways i) × (1 ≡ late_sum i)
  unfolding of_ways sum_cells keep
  broken_start =
      let e = run_none i i (omega arith) in
      (ap (of_ways g (rule25 R i w l r)) (sym e), ap (λ xs. sum_cells g 1 (each broken r (keep (far_after R i w) xs))) (sym e))

  pub late_step : (j n late : ℕ) → n ≡ suc j → i ≤ j → late ≡ late_sum j → add_if (leb w.from (ago R j i)) late (g (Broken r j)) ≡ late_sum n
  late_step j n late e h s = sum_up g broken r (far_after R i w) i j n late e h s

  pub broken_step : (j n late : ℕ) (best way : Best) → n ≡ suc j → i ≤ j → j < length R → up_to w.to (ago R j i) ≡ true → late ≡ late_sum n → best ≡ broken_ways j →
      way ≡ offer true (add_cell late (g (Broken l j))) (256 * 25 + j) → merge best way ≡ broken_ways n
  broken_step j n late best way e h q u s b k =
      up g (rule25 R i w l r) i j n best way e h b (k ∙ ap (λ x. offer x (add_cell late (g (Broken l j))) (256 * 25 + j)) (sym u) ∙ way25 g R i w l r j n late e h q s)

  module _ (end : ℕ) (u : (k : ℕ) → k < end → up_to w.to (ago R k i) ≡ true) where
    inner : (j : ℕ) → i ≤ j → j ≤ end → late_sum j ≡ sum_cells g 1 (each broken r (keep (in_after R i w) (run i (j - i))))
    inner j h q = ap (λ xs. sum_cells g 1 (each broken r xs)) (keep_same (far_after R i w) (in_after R i w) i (j - i) (λ k lo hi. within w _ (u k (omega arith))))

    pub broken_end : (j late : ℕ) (best : Best) → j ≡ end → i ≤ end → end ≤ length R → ((k : ℕ) → end ≤ k → k < length R → past w.to (ago R k i) ≡ true) → best ≡ broken_ways j → late ≡ late_sum j →
        merge best (offer (past w.to (ago R (length R - 1) i)) late (256 * 26 + 0)) ≡ of_forms g broken (forms R i (until w l r))
    broken_end j late best e h q p b s =
        ap₂ merge
        (b ∙ ap broken_ways e ∙
        rest_after g (rule25 R i w l r) i (length R - end) end (length R) (omega arith) h (λ k lo hi. second_false (leb i k && ltb k (length R)) _ (past_not w.to _ (p k lo hi))))
        (ap (λ s. offer (past w.to (ago R (length R - 1) i)) s (256 * 26 + 0))
        (s ∙ ap late_sum e ∙ inner end h (omega arith) ∙
        ap (λ xs. sum_cells g 1 (each broken r xs)) (keep_after (in_after R i w) i (length R - end) end (length R) (omega arith) h (λ k lo hi. past_outside w _ (p k lo hi))))) ∙
        broken_until g R i w l r

    pub broken_stop : (j n late : ℕ) (best : Best) → n ≡ suc j → i ≤ j → n ≤ end → end ≤ length R → best ≡ broken_ways j → late ≡ late_sum n → late ≡ 0 →
        best ≡ of_forms g broken (forms R i (until w l r))
    unfolding range
    broken_stop j n late best e h q t b s z =
        let closed = past w.to (ago R (length R - 1) i) in
        let y = kept_none_after g broken r (in_after R i w) i (length R - n) n (length R) (omega arith) (omega arith) (sym (inner n (omega arith) q) ∙ sym s ∙ z) in
        b ∙
        idle_after g (rule25 R i w l r) i (length R - j) j (length R) (omega arith) h
        (λ k lo hi. idle g (rule25 R i w l r) k (Broken l k) (each broken r (keep (far_after R i w) (range i k))) refl
        (kept_none_after g broken r (far_after R i w) i (suc k - n) n (suc k) (omega arith) (omega arith) (sym s ∙ z))) ∙
        sym (ways_tight g (rule25 R i w l r) (run i (length R - i))) ∙
        ap (merge (of_ways g (rule25 R i w l r) (run i (length R - i)))) (sym (ap (λ s. offer closed s (256 * 26 + 0)) y ∙ offer_none closed (256 * 26 + 0))) ∙
        broken_until g R i w l r
