-- The passes for since: the ways by the rows passed so far, the sums of their children, and what a pass ends with.
use Rattle.std.proofs.Common.{◌≡◌, ℕ, suc, ◌+◌, ◌-◌, ◌*◌, ◌<◌, ◌≤◌, true, ◌&&◌, List, leb, length, sym, refl, ap, ◌∙◌, ap₂, arith}
use Rattle.mtl.specs.Cells.{sum_cells, add_cell}
use Rattle.mtl.specs.Claims.{Held, Broken, each}
use Rattle.mtl.specs.Forms.{forms}
use Rattle.mtl.specs.Ranges.{run, range, keep}
use Rattle.mtl.specs.Windows.{up_to, past}
use Rattle.mtl.specs.declared.line.Line.TheVariants.{Since as since}
use Rattle.mtl.specs.declared.line.Window.{Window}
use Rattle.mtl.specs.declared.row.Row.{Row}
use Rattle.mtl.specs.declared.ruling.Claim.{Claim}
use Rattle.mtl.specs.declared.ruling.Ruling.TheVariants.{Held as held, Broken as broken}
use Rattle.writer.specs.Choice.{Best, none, merge, offer, add_if, of_ways, of_forms}
use Rattle.writer.specs.Passes.{ago, rule20, rule21, far_before, in_before}
use Rattle.writer.proofs.Adding.{down, sum_down, all_down, run_none, ways_tight}
use Rattle.writer.proofs.Offers.{way20, way21, held_since, broken_since}
use Rattle.writer.proofs.Outside.{past_not, past_outside, within, first_false, second_false, rest_before, idle_before, idle, none_before, kept_none_before, keep_same, keep_before}

module _ (g : Claim → ℕ) (R : List Row) (i : ℕ) (w : Window) (l r : ℕ) where
  -- the least of the ways by the rows from j on, and the sum of the children of earlier ones
  abbrev pub held_ways : ℕ → Best
  held_ways j = of_ways g (rule20 R i w l r) (run j (suc i - j))

  abbrev pub held_sum : ℕ → ℕ
  held_sum j = sum_cells g 1 (each held l (run j (suc i - j)))

  abbrev pub broken_ways : ℕ → Best
  broken_ways j = of_ways g (rule21 R i w l r) (run j (suc i - j))

  abbrev pub late_sum : ℕ → ℕ
  late_sum j = sum_cells g 1 (each broken r (keep (far_before R i w) (run j (suc i - j))))

  pub held_start : (none ≡ held_ways (i + 1)) × (1 ≡ held_sum (i + 1))
  unfolding of_ways sum_cells
  held_start =
      let e = run_none (i + 1) (suc i) (omega arith) in
      (ap (of_ways g (rule20 R i w l r)) (sym e), ap (λ xs. sum_cells g 1 (each held l xs)) (sym e))

  pub held_step : (j n sum : ℕ) (best way : Best) → n ≡ suc j → j ≤ i → best ≡ held_ways n → sum ≡ held_sum n → up_to w.to (ago R i j) ≡ true →
      way ≡ offer (leb w.from (ago R i j)) (add_cell sum (g (Held r j))) (256 * 20 + j) → (merge way best ≡ held_ways j) × (add_cell sum (g (Held l j)) ≡ held_sum j)
  held_step j n sum best way e h b s u k = (
    down g (rule20 R i w l r) j n (suc i) best way e (omega arith) b
        (k ∙ ap (λ x. offer x (add_cell sum (g (Held r j))) (256 * 20 + j)) (within w (ago R i j) u) ∙ way20 g R i w l r j n sum e h s),
    all_down g held l j n (suc i) sum e (omega arith) s,
  )

  held_whole : held_ways 0 ≡ of_forms g held (forms R i (since w l r))
  held_whole = let f : suc i - 0 ≡ suc i = omega arith in ap (λ x. of_ways g (rule20 R i w l r) (run 0 x)) f ∙ held_since g R i w l r

  pub held_end : (start j : ℕ) (best : Best) → j ≡ start → start ≤ i → ((k : ℕ) → k < start → past w.to (ago R i k) ≡ true) → best ≡ held_ways j →
      best ≡ of_forms g held (forms R i (since w l r))
  held_end start j best e h p b =
      b ∙ ap held_ways e ∙
      rest_before g (rule20 R i w l r) start 0 start (suc i) (omega arith) (omega arith) (λ k lo hi. second_false (leb k i) _ (past_outside w _ (p k hi))) ∙ held_whole

  pub held_stop : (j sum : ℕ) (best : Best) → j ≤ suc i → best ≡ held_ways j → sum ≡ held_sum j → sum ≡ 0 → best ≡ of_forms g held (forms R i (since w l r))
  unfolding range
  held_stop j sum best h b s z =
      b ∙
      idle_before g (rule20 R i w l r) j 0 j (suc i) (omega arith) (omega arith)
      (λ k lo hi. idle g (rule20 R i w l r) k (Held r k) (each held l (range (k + 1) i)) refl
      (none_before g held l (j - (k + 1)) (k + 1) j (suc i) (omega arith) (omega arith) (sym s ∙ z))) ∙
      held_whole

  pub broken_start : (none ≡ broken_ways (i + 1)) × (1 ≡ late_sum (i + 1))
  unfolding of_ways sum_cells keep
  broken_start =
      let e = run_none (i + 1) (suc i) (omega arith) in
      (ap (of_ways g (rule21 R i w l r)) (sym e), ap (λ xs. sum_cells g 1 (each broken r (keep (far_before R i w) xs))) (sym e))

  pub late_step : (j n late : ℕ) → n ≡ suc j → j ≤ i → late ≡ late_sum n → add_if (leb w.from (ago R i j)) late (g (Broken r j)) ≡ late_sum j
  late_step j n late e h s = sum_down g broken r (far_before R i w) j n (suc i) late e (omega arith) s

  module _ (f : w.from ≤ ago R i 0) where
    pub broken_step : (j n late : ℕ) (best way : Best) → n ≡ suc j → 1 ≤ j → j ≤ i → up_to w.to (ago R i (j - 1)) ≡ true → late ≡ late_sum j → best ≡ broken_ways n →
        way ≡ offer true (add_cell late (g (Broken l j))) (256 * 21 + j) → merge way best ≡ broken_ways j
    broken_step j n late best way e p h u s b k =
        down g (rule21 R i w l r) j n (suc i) best way e (omega arith) b (k ∙ ap (λ x. offer x (add_cell late (g (Broken l j))) (256 * 21 + j)) (sym u) ∙ way21 g R i w l r j late p h f s)

    module _ (here : i < length R) (start : ℕ) (u : (k : ℕ) → start ≤ k → k < length R → up_to w.to (ago R i k) ≡ true) where
      inner : (j : ℕ) → start ≤ j → late_sum j ≡ sum_cells g 1 (each broken r (keep (in_before R i w) (run j (suc i - j))))
      inner j h =
          ap (λ xs. sum_cells g 1 (each broken r xs))
          (keep_same (far_before R i w) (in_before R i w) j (suc i - j) (λ k lo hi. within w _ (u k (omega arith) (omega arith))))

      pub broken_end : (j whole : ℕ) (best : Best) → j ≡ start + 1 → start ≤ i → ((k : ℕ) → k < start → past w.to (ago R i k) ≡ true) → best ≡ broken_ways j → whole ≡ late_sum start →
          merge best (offer true whole (256 * 22 + 0)) ≡ of_forms g broken (forms R i (since w l r))
      broken_end j whole best e h p b s =
          let q : suc i - 1 ≡ i = omega arith in
          ap₂ merge
          (b ∙ ap broken_ways e ∙
          rest_before g (rule21 R i w l r) start 1 (start + 1) (suc i) (omega arith) (omega arith)
          (λ k lo hi. second_false (leb 1 k && leb k i) _ (first_false (up_to w.to (ago R i (k - 1))) _ (past_not w.to _ (p (k - 1) (omega arith))))) ∙
          ap (λ x. of_ways g (rule21 R i w l r) (run 1 x)) q)
          (ap (λ s. offer true s (256 * 22 + 0))
          (s ∙ inner start (omega arith) ∙
          ap (λ xs. sum_cells g 1 (each broken r xs)) (keep_before (in_before R i w) start 0 start (suc i) (omega arith) (omega arith) (λ k hi. past_outside w _ (p k hi))))) ∙
          broken_since g R i w l r f

      pub broken_stop : (j n late : ℕ) (best : Best) → n ≡ suc j → 1 ≤ j → j ≤ i → start ≤ j → best ≡ broken_ways n → late ≡ late_sum j → late ≡ 0 →
          best ≡ of_forms g broken (forms R i (since w l r))
      unfolding range
      broken_stop j n late best e p h q b s z =
          let m : suc i - 1 ≡ i = omega arith in
          let y = kept_none_before g broken r (in_before R i w) j 0 j (suc i) (omega arith) (omega arith) (sym (inner j q) ∙ sym s ∙ z) in
          b ∙
          idle_before g (rule21 R i w l r) j 1 n (suc i) (omega arith) (omega arith)
          (λ k lo hi. idle g (rule21 R i w l r) k (Broken l k) (each broken r (keep (far_before R i w) (range k i))) refl
          (kept_none_before g broken r (far_before R i w) (j - k) k j (suc i) (omega arith) (omega arith) (sym s ∙ z))) ∙
          ap (λ x. of_ways g (rule21 R i w l r) (run 1 x)) m ∙ sym (ways_tight g (rule21 R i w l r) (run 1 i)) ∙
          ap (λ s. merge (of_ways g (rule21 R i w l r) (run 1 i)) (offer true s (256 * 22 + 0))) (sym y) ∙ broken_since g R i w l r f
