-- The ways of the rules for since.
use Rattle.std.proofs.Common.{◌≡◌, ℕ, suc, ◌+◌, ◌-◌, ◌*◌, ◌<◌, ◌≤◌, Bool, true, false, ◌&&◌, T as Yes, ltb, leb, List, [], ◌∷◌, length, sym, refl, ap, ◌∙◌, subst, ap₂, arith, le→leb, ltb→lt, lt→ltb, leb→le}
use Rattle.mtl.specs.Cells.{sum_cells, add_cell}
use Rattle.mtl.specs.Claims.{Held, Broken, each}
use Rattle.mtl.specs.Forms.{Form, forms}
use Rattle.mtl.specs.Ranges.{run, range, keep}
use Rattle.mtl.specs.Rows.{time_at}
use Rattle.mtl.specs.Windows.{inside, up_to, past}
use Rattle.mtl.specs.declared.line.Line.TheVariants.{Since as since, Until as until}
use Rattle.mtl.specs.declared.line.Window.{Window}
use Rattle.mtl.specs.declared.row.Row.{Row}
use Rattle.mtl.specs.declared.ruling.Claim.{Claim}
use Rattle.mtl.specs.declared.ruling.Ruling.TheVariants.{Held as held, Broken as broken}
use Rattle.writer.specs.Choice.{Best, none, merge, offer, way_by, of_ways, of_forms}
use Rattle.writer.specs.Passes.{rule20, rule21, rule24, rule25, far_before, in_before, far_after, in_after}
use Rattle.writer.proofs.Adding.{sum_cons, ways_tight, offer_tight}

pub true_of : (b : Bool) → Yes b → b ≡ true
true_of true t = refl
true_of false t = absurd t

pub and_true : (a b : Bool) → Yes a → a && b ≡ b
and_true true b t = refl
and_true false b t = absurd t

pub false_of : (b : Bool) → (Yes b → ⊥) → b ≡ false
false_of true t = absurd (t tt)
false_of false t = refl

ways_none : (g : Claim → ℕ) (f : Form) (js : List ℕ) → ((j : ℕ) → f.meets j ≡ false) → of_ways g f js ≡ none
unfolding of_ways
ways_none g f [] h = refl
ways_none g f (j ∷ js) h = ap (λ b. merge (offer b (sum_cells g 1 (f.kids j)) (256 * f.number + j)) (of_ways g f js)) (h j) ∙ ways_none g f js h

and_false : (a b : Bool) → b ≡ false → a && b ≡ false
and_false true b e = e
and_false false b e = refl

last_two : (b d : Bool) (s p q : ℕ) → b ≡ true → d ≡ false → merge (merge (offer b s p) none) (merge (merge (offer d 1 q) none) none) ≡ offer true s p
last_two b d s p q e k = ap₂ (λ x y. merge (merge (offer x s p) none) (merge (merge (offer y 1 q) none) none)) e k ∙ (ap (λ x. merge x none) (offer_tight true s p) ∙ offer_tight true s p)

last_one : (x : Best) (b d : Bool) (s p q : ℕ) → x ≡ none → b ≡ false → d ≡ true →
    merge x (merge (merge (offer b s p) none) (merge (merge (offer d 1 q) none) none)) ≡ offer true 1 q
last_one x b d s p q h e k = (λ i. merge (h i) (merge (merge (offer (e i) s p) none) (merge (merge (offer (k i) 1 q) none) none)))

module _ (g : Claim → ℕ) (R : List Row) (i : ℕ) (w : Window) (l r : ℕ) where
  pub way20 : (j n sum : ℕ) → n ≡ suc j → j ≤ i → sum ≡ sum_cells g 1 (each held l (run n (suc i - n))) →
      offer (inside w (time_at R i - time_at R j)) (add_cell sum (g (Held r j))) (256 * 20 + j) ≡ way_by g (rule20 R i w l r) j
  unfolding range
  way20 j n sum e h k =
      let q : n ≡ j + 1 = omega arith in
      ap₂ (λ b s. offer b s (256 * 20 + j)) (sym (and_true (leb j i) _ (le→leb j i h)))
      (ap (λ s. add_cell s (g (Held r j))) (k ∙ ap (λ x. sum_cells g 1 (each held l (run x (suc i - x)))) q) ∙ sym (sum_cons g 1 (Held r j) _))

  pub held_since : of_ways g (rule20 R i w l r) (run 0 (suc i)) ≡ of_forms g held (forms R i (since w l r))
  unfolding forms of_forms
  held_since = sym (ways_tight g (rule20 R i w l r) (run 0 (suc i)))

  pub way21 : (j late : ℕ) → 1 ≤ j → j ≤ i → w.from ≤ time_at R i - time_at R 0 → late ≡ sum_cells g 1 (each broken r (keep (far_before R i w) (run j (suc i - j)))) →
      offer (up_to w.to (time_at R i - time_at R (j - 1))) (add_cell late (g (Broken l j))) (256 * 21 + j) ≡ way_by g (rule21 R i w l r) j
  unfolding range
  way21 j late p h f k =
      ap₂ (λ b s. offer b s (256 * 21 + j))
      (sym (and_true (leb 1 j && leb j i) _ (subst Yes (sym (and_true (leb 1 j) (leb j i) (le→leb 1 j p))) (le→leb j i h)) ∙
      and_second (up_to w.to (time_at R i - time_at R (j - 1))) _ (le→leb _ _ f)))
      (ap (λ s. add_cell s (g (Broken l j))) k ∙ sym (sum_cons g 1 (Broken l j) _))
    where
      and_second : (a b : Bool) → Yes b → a && b ≡ a
      and_second true b t = true_of b t
      and_second false b t = refl

  pub broken_since : w.from ≤ time_at R i - time_at R 0 →
      merge (of_ways g (rule21 R i w l r) (run 1 i)) (offer true (sum_cells g 1 (each broken r (keep (in_before R i w) (run 0 (suc i - 0))))) (256 * 22 + 0)) ≡
      of_forms g broken (forms R i (since w l r))
  unfolding forms of_forms of_ways run range sum_cells
  broken_since h =
      ap (merge (of_ways g (rule21 R i w l r) (run 1 i)))
      (sym (last_two (leb w.from (time_at R i - time_at R 0)) (ltb (time_at R i - time_at R 0) w.from) _ (256 * 22 + 0) (256 * 23 + 0)
      (true_of _ (le→leb _ _ h)) (false_of _ (λ t. let z = ltb→lt _ _ t in omega arith))))

  pub short_since : time_at R i - time_at R 0 < w.from → offer true 1 (256 * 23 + 0) ≡ of_forms g broken (forms R i (since w l r))
  unfolding forms of_forms of_ways run range sum_cells
  short_since h =
      let no_leb : leb w.from (time_at R i - time_at R 0) ≡ false = false_of _ (λ t. let z = leb→le _ _ t in omega arith) in
      sym (last_one (of_ways g (rule21 R i w l r) (run 1 i)) (leb w.from (time_at R i - time_at R 0)) (ltb (time_at R i - time_at R 0) w.from)
      (sum_cells g 1 (each broken r (keep (in_before R i w) (range 0 i)))) (256 * 22 + 0) (256 * 23 + 0)
      (ways_none g (rule21 R i w l r) (run 1 i) (λ j. and_false (leb 1 j && leb j i) _ (and_false (up_to w.to (time_at R i - time_at R (j - 1))) _ no_leb)))
      no_leb (true_of _ (lt→ltb _ _ h)))

  pub way24 : (j sum : ℕ) → i ≤ j → j < length R → sum ≡ sum_cells g 1 (each held l (run i (j - i))) →
      offer (inside w (time_at R j - time_at R i)) (add_cell sum (g (Held r j))) (256 * 24 + j) ≡ way_by g (rule24 R i w l r) j
  way24 j sum p h k =
      ap₂ (λ b s. offer b s (256 * 24 + j))
      (sym (and_true (leb i j && ltb j (length R)) _ (subst Yes (sym (and_true (leb i j) (ltb j (length R)) (le→leb i j p))) (lt→ltb j (length R) h))))
      (ap (λ s. add_cell s (g (Held r j))) k ∙ sym (sum_cons g 1 (Held r j) _))

  pub held_until : of_ways g (rule24 R i w l r) (run i (length R - i)) ≡ of_forms g held (forms R i (until w l r))
  unfolding forms of_forms
  held_until = sym (ways_tight g (rule24 R i w l r) (run i (length R - i)))

  pub way25 : (j n late : ℕ) → n ≡ suc j → i ≤ j → j < length R → late ≡ sum_cells g 1 (each broken r (keep (far_after R i w) (run i (n - i)))) →
      offer (up_to w.to (time_at R j - time_at R i)) (add_cell late (g (Broken l j))) (256 * 25 + j) ≡ way_by g (rule25 R i w l r) j
  unfolding range
  way25 j n late e p h k =
      ap₂ (λ b s. offer b s (256 * 25 + j))
      (sym (and_true (leb i j && ltb j (length R)) _ (subst Yes (sym (and_true (leb i j) (ltb j (length R)) (le→leb i j p))) (lt→ltb j (length R) h))))
      (ap (λ s. add_cell s (g (Broken l j))) (k ∙ ap (λ x. sum_cells g 1 (each broken r (keep (far_after R i w) (run i (x - i))))) e) ∙ sym (sum_cons g 1 (Broken l j) _))

  pub broken_until :
      merge (of_ways g (rule25 R i w l r) (run i (length R - i)))
      (offer (past w.to (time_at R (length R - 1) - time_at R i)) (sum_cells g 1 (each broken r (keep (in_after R i w) (run i (length R - i))))) (256 * 26 + 0)) ≡
      of_forms g broken (forms R i (until w l r))
  unfolding forms of_forms of_ways run
  broken_until =
      ap (merge (of_ways g (rule25 R i w l r) (run i (length R - i))))
      (sym (ap (λ x. merge x none) (offer_tight (past w.to (time_at R (length R - 1) - time_at R i)) _ _) ∙ offer_tight (past w.to (time_at R (length R - 1) - time_at R i)) _ _))
