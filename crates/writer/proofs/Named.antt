-- A cell of the plan names the step that the shortest certificate takes.
use Rattle.std.proofs.Common.{◌≡◌, ℕ, zero, suc, ◌+◌, ◌*◌, ◌<◌, ◌≤◌, min, Bool, true, false, cond, not, T as Yes, ltb, leb, List, [], ◌∷◌, ◌++◌, length, Some, None, Option, sym, refl, ◌∙◌, subst, ap₂, arith, ltb→lt, leb→le}
use lib.Dec.{nleb→lt}
use Rattle.mtl.specs.Claims.{same_ruling}
use Rattle.mtl.specs.Ranges.{run}
use Rattle.mtl.specs.Lists.{AllOf}
use Rattle.mtl.specs.Forms.{Step, by, guard, for_each, Form, forms, ways_of, ways_in}
use Rattle.mtl.specs.Cells.{lower_cell, sum_cells, best_cell, first_of, planned}
use Rattle.mtl.specs.declared.line.Line.{Line}
use Rattle.mtl.specs.declared.line.Line.TheVariants.{Mark, Not, And, Or, Previous, Next, Since, Until}
use Rattle.mtl.specs.declared.row.Row.{Row}
use Rattle.mtl.specs.declared.ruling.Claim.{Claim}
use Rattle.mtl.specs.declared.ruling.Ruling.{Ruling}
use Rattle.mtl.specs.declared.ruling.Ruling.TheVariants.{Held as held, Broken as broken}
use Rattle.writer.specs.Ways.{Names, by_this, by_later}
use Rattle.writer.specs.Choice.{Best, none, merge, choice, offer, way_by, of_ways, of_forms}
use Rattle.writer.proofs.Right.{best_both, way_size, ways_size, one_size, forms_size}
use Rattle.mtl.specs.Lines.{Rules, line_at, WellFormed}
use Rattle.mtl.specs.Shortest.{certificate, attempt}
use Rattle.writer.specs.Written.{Short}
use Rattle.writer.specs.Tables.{best_by, cell_of}
use Rattle.mtl.proofs.Plans.{plan_at}

-- the first of three, by twos from either side
three : (s b y : ℕ) (x p q : Option Step) → cond (first_of s (lower_cell b y)) x (cond (first_of b y) p q) ≡ cond (first_of (lower_cell s b) y) (cond (first_of s b) x p) q
three zero b y x p q = refl
three (suc s) zero y x p q = refl
three (suc s) (suc b) zero x p q = go (min (suc s) (suc b)) refl
  where
    go : (m : ℕ) → m ≡ min (suc s) (suc b) → cond (leb (suc s) (suc b)) x p ≡ cond (first_of m 0) (cond (leb (suc s) (suc b)) x p) q
    go zero e = absurd (omega arith)
    go (suc m) e = refl
three (suc s) (suc b) (suc y) x p q = go (min (suc b) (suc y)) (min (suc s) (suc b)) refl refl
  where
    at : (m n : ℕ) → m ≡ min (suc b) (suc y) → n ≡ min (suc s) (suc b) → (t u v w : Bool) →
        (Yes t → suc s ≤ m) → (Yes (not t) → m < suc s) → (Yes u → suc b ≤ suc y) → (Yes (not u) → suc y < suc b) →
        (Yes v → n ≤ suc y) → (Yes (not v) → suc y < n) → (Yes w → suc s ≤ suc b) → (Yes (not w) → suc b < suc s) →
        cond t x (cond u p q) ≡ cond v (cond w x p) q
    at m n e f true u true true t1 t0 u1 u0 v1 v0 w1 w0 = refl
    at m n e f true u true false t1 t0 u1 u0 v1 v0 w1 w0 = let a = t1 tt in let z = w0 tt in absurd (omega arith)
    at m n e f true u false w t1 t0 u1 u0 v1 v0 w1 w0 = let a = t1 tt in let z = v0 tt in absurd (omega arith)
    at m n e f false true true true t1 t0 u1 u0 v1 v0 w1 w0 = let a = t0 tt in let d = u1 tt in let z = w1 tt in absurd (omega arith)
    at m n e f false true true false t1 t0 u1 u0 v1 v0 w1 w0 = refl
    at m n e f false true false w t1 t0 u1 u0 v1 v0 w1 w0 = let a = u1 tt in let z = v0 tt in absurd (omega arith)
    at m n e f false false true w t1 t0 u1 u0 v1 v0 w1 w0 = let a = t0 tt in let d = u0 tt in let z = v1 tt in absurd (omega arith)
    at m n e f false false false w t1 t0 u1 u0 v1 v0 w1 w0 = refl

    go : (m n : ℕ) → m ≡ min (suc b) (suc y) → n ≡ min (suc s) (suc b) →
        cond (first_of (suc s) m) x (cond (leb (suc b) (suc y)) p q) ≡ cond (first_of n (suc y)) (cond (leb (suc s) (suc b)) x p) q
    go zero n e f = absurd (omega arith)
    go (suc m) zero e f = absurd (omega arith)
    go (suc m) (suc n) e f =
        at (suc m) (suc n) e f (leb (suc s) (suc m)) (leb (suc b) (suc y)) (leb (suc n) (suc y)) (leb (suc s) (suc b))
        (leb→le _ _) (nleb→lt _ _) (leb→le _ _) (nleb→lt _ _) (leb→le _ _) (nleb→lt _ _) (leb→le _ _) (nleb→lt _ _)

planned_both : (g : Claim → ℕ) (xs ys : List Step) → planned g (xs ++ ys) ≡ cond (first_of (best_cell g xs) (best_cell g ys)) (planned g xs) (planned g ys)
unfolding planned best_cell
planned_both g [] ys = refl
planned_both g (x ∷ xs) ys =
    ap₂ (λ b o. cond (first_of (sum_cells g 1 x.kids) b) (Some x) o) (best_both g xs ys) (planned_both g xs ys) ∙
    three (sum_cells g 1 x.kids) (best_cell g xs) (best_cell g ys) (Some x) (planned g xs) (planned g ys)

-- rows are below 128
few_js : (R : List Row) (i : ℕ) (l : Line) → i < length R → length R ≤ 128 → AllOf (λ (f : Form). f.first + f.count ≤ 128) (forms R i l)
unfolding forms
few_js R i (Mark m) h k = omega arith
few_js R i (Not l) h k = omega arith
few_js R i (And l r) h k = omega arith
few_js R i (Or l r) h k = omega arith
few_js R i (Previous w l) h k = omega arith
few_js R i (Next w l) h k = omega arith
few_js R i (Since w l r) h k = omega arith
few_js R i (Until w l r) h k = omega arith

-- where a step is planned, the code of the best way has to do with it
abbrev Agree : (ℕ → Step → Type 0) → Option Step → Best → Type 0
Agree Q None b = Unit {0}
Agree Q (Some s) b = Q b.code s

agree_one : (Q : ℕ → Step → Type 0) (t : Bool) (o p : Option Step) (a b : Best) → Agree Q o a → Agree Q p b → Agree Q (cond t o p) (cond t a b)
agree_one Q true o p a b h k = h
agree_one Q false o p a b h k = k

agree_both : (Q : ℕ → Step → Type 0) (g : Claim → ℕ) (xs ys : List Step) (a b : Best) → a.size ≡ best_cell g xs → b.size ≡ best_cell g ys →
    Agree Q (planned g xs) a → Agree Q (planned g ys) b → Agree Q (planned g (xs ++ ys)) (merge a b)
agree_both Q g xs ys a b e f h k =
    subst (λ o. Agree Q o (merge a b)) (sym (planned_both g xs ys ∙ ap₂ (λ x y. cond (first_of x y) (planned g xs) (planned g ys)) (sym e) (sym f)))
    (agree_one Q (first_of a.size b.size) (planned g xs) (planned g ys) a b h k)

agree_more : (P Q : ℕ → Step → Type 0) → ((code : ℕ) (s : Step) → P code s → Q code s) → (o : Option Step) (b : Best) → Agree P o b → Agree Q o b
agree_more P Q f None b h = tt
agree_more P Q f (Some s) b h = f b.code s h

-- by one rule
abbrev Ruled : Form → ℕ → ℕ → ℕ → Step → Type 0
Ruled f a n code s = (j : ℕ) × (a ≤ j) × (j < a + n) × (code ≡ 256 * f.number + j) × (s ≡ by f.number (f.kids j))

way_agrees : (g : Claim → ℕ) (f : Form) (j : ℕ) → Agree (Ruled f j 1) (planned g (guard (f.meets j) (by f.number (f.kids j) ∷ []))) (way_by g f j)
unfolding planned guard best_cell
way_agrees g f j = go (f.meets j)
  where
    at : (n : ℕ) → Agree (Ruled f j 1) (cond (first_of n 0) (Some (by f.number (f.kids j))) None) (choice n (256 * f.number + j))
    at zero = tt
    at (suc n) = (j, omega arith, omega arith, refl, refl)

    go : (b : Bool) → Agree (Ruled f j 1) (planned g (guard b (by f.number (f.kids j) ∷ []))) (offer b (sum_cells g 1 (f.kids j)) (256 * f.number + j))
    go true = at (sum_cells g 1 (f.kids j))
    go false = tt

ways_agree : (g : Claim → ℕ) (f : Form) (a n : ℕ) →
    Agree (Ruled f a n) (planned g (for_each (λ j. guard (f.meets j) (by f.number (f.kids j) ∷ [])) (run a n))) (of_ways g f (run a n))
unfolding planned for_each of_ways run
ways_agree g f a zero = tt
ways_agree g f a (suc n) =
    agree_both (Ruled f a (suc n)) g (guard (f.meets a) (by f.number (f.kids a) ∷ [])) (for_each (λ j. guard (f.meets j) (by f.number (f.kids j) ∷ [])) (run (suc a) n))
    (way_by g f a) (of_ways g f (run (suc a) n)) (way_size g f a) (ways_size g f (run (suc a) n))
    (agree_more (Ruled f a 1) (Ruled f a (suc n)) (λ code s h. (h.0, h.1, omega (arith, h.2), h.3, h.4)) _ _ (way_agrees g f a))
    (agree_more (Ruled f (suc a) n) (Ruled f a (suc n)) (λ code s h. (h.0, omega (arith, h.1), omega (arith, h.2), h.3, h.4)) _ _ (ways_agree g f (suc a) n))

same_ruling_lem : (a b : Ruling) → same_ruling a b ≡ true → a ≡ b
same_ruling_lem held held e = refl
same_ruling_lem held broken e = let z : ◌≡◌ {A = ℕ} 0 1 = cc in absurd (omega arith)
same_ruling_lem broken held e = let z : ◌≡◌ {A = ℕ} 0 1 = cc in absurd (omega arith)
same_ruling_lem broken broken e = refl

forms_agree : (g : Claim → ℕ) (r : Ruling) (fs : List Form) → AllOf (λ (f : Form). f.first + f.count ≤ 128) fs →
    Agree (λ code s. Names r code s fs) (planned g (ways_in r fs)) (of_forms g r fs)
unfolding planned ways_in of_forms guard
forms_agree g r [] h = tt
forms_agree g r (f ∷ fs) h =
    agree_both (λ code s. Names r code s (f ∷ fs)) g (guard (same_ruling f.ruling r) (ways_of f)) (ways_in r fs) here (of_forms g r fs) (one_size g r f) (forms_size g r fs)
    (go (same_ruling f.ruling r) refl)
    (agree_more (λ code s. Names r code s fs) (λ code s. Names r code s (f ∷ fs)) (λ code s n. by_later n) _ _ (forms_agree g r fs h.1))
  where
    here : Best
    here = cond (same_ruling f.ruling r) (of_ways g f (run f.first f.count)) none

    go : (b : Bool) → same_ruling f.ruling r ≡ b →
        Agree (λ code s. Names r code s (f ∷ fs)) (planned g (guard b (ways_of f))) (cond b (of_ways g f (run f.first f.count)) none)
    go true e =
        agree_more (Ruled f f.first f.count) (λ code s. Names r code s (f ∷ fs))
        (λ code s n. by_this n.0 (same_ruling_lem f.ruling r e) (omega (arith, n.2, h.0)) n.1 n.2 n.3 n.4) _ _ (ways_agree g f f.first f.count)
    go false e = tt

module _ (T : Rules) (wf : WellFormed T) (R : List Row) (few : length R ≤ 128) where
  -- the step that a claim's cell of the plan names, and the certificate that it makes
  pub plan_says : (c : Claim) → Short T R c →
      (s : Step) × (c.line < length T) × (c.row < length R) × Names c.ruling (best_by (cell_of T R) T R c).code s (forms R c.row (line_at T c.line)) ×
      (certificate T R c ≡ attempt (certificate T R) c s)
  unfolding best_by guard planned
  plan_says c h =
      let p = plan_at T wf R (cell_of T R) c (λ k l. refl) h.0 h.1 in
      let q = go (ltb c.line (length T)) (ltb c.row (length R)) p.0 (ltb→lt _ _) (ltb→lt _ _) p.1 in
      (p.0, q.0, q.1, q.2, p.2)
    where
      fs : List Form
      fs = forms R c.row (line_at T c.line)

      named : (o : Option Step) (s : Step) (b : Best) → o ≡ Some s → Agree (λ code s. Names c.ruling code s fs) o b → Names c.ruling b.code s fs
      named o s b e h = subst (λ o. Agree (λ code s. Names c.ruling code s fs) o b) e h

      none_no : (s : Step) → ◌≡◌ {A = Option Step} None (Some s) → ⊥
      none_no s e = let z : ◌≡◌ {A = ℕ} 0 1 = cc in absurd (omega arith)

      go : (a b : Bool) (s : Step) → (Yes a → c.line < length T) → (Yes b → c.row < length R) →
          planned (cell_of T R) (guard a (guard b (ways_in c.ruling fs))) ≡ Some s →
          (c.line < length T) × (c.row < length R) × Names c.ruling (cond a (cond b (of_forms (cell_of T R) c.ruling fs) none) none).code s fs
      go true true s x y e = (
        x tt,
        y tt,
        named (planned (cell_of T R) (ways_in c.ruling fs)) s (of_forms (cell_of T R) c.ruling fs) e
            (forms_agree (cell_of T R) c.ruling fs (few_js R c.row (line_at T c.line) (y tt) few)),
      )
      go true false s x y e = absurd (none_no s e)
      go false b s x y e = absurd (none_no s e)
