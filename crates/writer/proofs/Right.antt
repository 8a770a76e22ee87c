-- The cells that the code works out are those of the shortest certificates.
use Rattle.std.proofs.Common.{◌≡◌, ℕ, zero, suc, ◌+◌, ◌*◌, ◌/◌, ◌%◌, ◌<◌, ◌≤◌, min, Bool, true, false, cond, not, T as Yes, ltb, leb, eqb, List, [], ◌∷◌, ◌++◌, length, get_or, sym, refl, ap, ◌∙◌, subst, ap₂, arith, ltb→lt, lt→ltb, leb→le}
use lib.Dec.{nleb→lt}
use native.Mathlib.Decide.{dec_lt}
use Rattle.mtl.specs.Cells.{add_cell, lower_cell, sum_cells, best_cell, first_of}
use Rattle.mtl.specs.Claims.{claim, each, same_ruling}
use Rattle.mtl.specs.Forms.{Step, by, guard, for_each, Form, forms, ways_of, ways_in, steps}
use Rattle.mtl.specs.Lines.{Rules, line_at, WellFormed}
use Rattle.mtl.specs.Ranges.{run}
use Rattle.mtl.specs.declared.line.Line.{Line}
use Rattle.mtl.specs.declared.line.Line.TheVariants.{Mark, Not, And, Or, Previous, Next, Since, Until}
use Rattle.mtl.specs.declared.row.Row.{Row}
use Rattle.mtl.specs.declared.ruling.Claim.{Claim}
use Rattle.mtl.specs.declared.ruling.Ruling.{Ruling}
use Rattle.mtl.specs.declared.ruling.Ruling.TheVariants.{Held as held, Broken as broken}
use Rattle.mtl.proofs.Filled.{cell_at}
use Rattle.mtl.specs.Lists.{AllOf}
use Rattle.mtl.proofs.Operands.{Earlier, earlier_at}
use Rattle.writer.specs.Choice.{Best, none, merge, choice, offer, way_by, of_ways, of_forms, cell_in, place}
use Rattle.writer.specs.Tables.{best_by, cell_of, size_at, code_at, filled}
use Rattle.writer.proofs.Offers.{true_of}
use Rattle.writer.proofs.Reading.{read_at, read_none}
use Rattle.writer.proofs.Stored.{filled_get, claim_of}
use Rattle.mtl.specs.Buffers.{claim_at}

pub best_in : (g : Claim → ℕ) (T : Rules) (R : List Row) (n i : ℕ) (r : Ruling) → n < length T → i < length R →
    best_by g T R (record { line = n; row = i; ruling = r }) ≡ of_forms g r (forms R i (line_at T n))
unfolding best_by
best_in g T R n i r p q =
    ap₂ (λ a b. cond a (cond b (of_forms g r (forms R i (line_at T n))) none) none) (true_of _ (lt→ltb n (length T) p)) (true_of _ (lt→ltb i (length R) q))

pub best_out : (g : Claim → ℕ) (T : Rules) (R : List Row) (n i : ℕ) (r : Ruling) → (n < length T → length R ≤ i) → none ≡ best_by g T R (record { line = n; row = i; ruling = r })
unfolding best_by
best_out g T R n i r h = go (ltb n (length T)) (ltb i (length R)) (ltb→lt _ _) (ltb→lt _ _)
  where
    go : (a b : Bool) → (Yes a → n < length T) → (Yes b → i < length R) → none ≡ cond a (cond b (of_forms g r (forms R i (line_at T n))) none) none
    go true true p q = let x = h (p tt) in let y = q tt in absurd (omega arith)
    go true false p q = refl
    go false b p q = refl

-- children are on earlier lines
each_all : (P : Claim → Type 0) (r : Ruling) (n : ℕ) (ks : List ℕ) → ((k : ℕ) → P (record { line = n; row = k; ruling = r })) → AllOf P (each r n ks)
each_all P r n [] h = tt
each_all P r n (k ∷ ks) h = (h k, each_all P r n ks h)

pub below : (R : List Row) (i n : ℕ) (l : Line) → Earlier n l → AllOf (λ (f : Form). (j : ℕ) → AllOf (λ (k : Claim). k.line < n) (f.kids j)) (forms R i l)
unfolding forms
below R i n (Mark m) h = (λ j. tt, (λ j. tt, tt))
below R i n (Not l) h = (λ j. (h, tt), (λ j. (h, tt), tt))
below R i n (And l r) h = (λ j. (h.0, (h.1, tt)), (λ j. (h.0, tt), (λ j. (h.1, tt), tt)))
below R i n (Or l r) h = (λ j. (h.0, tt), (λ j. (h.1, tt), (λ j. (h.0, (h.1, tt)), tt)))
below R i n (Previous w l) h = (λ j. (h, tt), (λ j. (h, tt), (λ j. tt, (λ j. tt, (λ j. tt, tt)))))
below R i n (Next w l) h = (λ j. (h, tt), (λ j. (h, tt), (λ j. tt, (λ j. tt, tt))))
below R i n (Since w l r) h =
    let P : Claim → Type 0 = λ k. k.line < n in
    (λ j. (h.1, each_all P held l _ (λ k. h.0)), (λ j. (h.0, each_all P broken r _ (λ k. h.1)), (λ j. each_all P broken r _ (λ k. h.1), (λ j. tt, tt))))
below R i n (Until w l r) h =
    let P : Claim → Type 0 = λ k. k.line < n in
    (λ j. (h.1, each_all P held l _ (λ k. h.0)), (λ j. (h.0, each_all P broken r _ (λ k. h.1)), (λ j. each_all P broken r _ (λ k. h.1), tt)))

module _ (g h : Claim → ℕ) (n : ℕ) (same : (k : Claim) → k.line < n → g k ≡ h k) where
  sum_same : (a : ℕ) (cs : List Claim) → AllOf (λ (k : Claim). k.line < n) cs → sum_cells g a cs ≡ sum_cells h a cs
  unfolding sum_cells
  sum_same a [] q = refl
  sum_same a (c ∷ cs) q = sum_same (add_cell a (g c)) cs q.1 ∙ ap (λ x. sum_cells h (add_cell a x) cs) (same c q.0)

  ways_same : (f : Form) (js : List ℕ) → ((j : ℕ) → AllOf (λ (k : Claim). k.line < n) (f.kids j)) → of_ways g f js ≡ of_ways h f js
  unfolding of_ways
  ways_same f [] q = refl
  ways_same f (j ∷ js) q = ap₂ (λ s b. merge (offer (f.meets j) s (256 * f.number + j)) b) (sum_same 1 (f.kids j) (q j)) (ways_same f js q)

  forms_same : (r : Ruling) (fs : List Form) → AllOf (λ (f : Form). (j : ℕ) → AllOf (λ (k : Claim). k.line < n) (f.kids j)) fs → of_forms g r fs ≡ of_forms h r fs
  unfolding of_forms
  forms_same r [] q = refl
  forms_same r (f ∷ fs) q = ap₂ (λ a b. merge (cond (same_ruling f.ruling r) a none) b) (ways_same f (run f.first f.count) q.0) (forms_same r fs q.1)

  pub best_same : (T : Rules) (R : List Row) → WellFormed T → (c : Claim) → c.line ≡ n → best_by g T R c ≡ best_by h T R c
  unfolding best_by
  best_same T R wf c e = go (ltb c.line (length T)) (ltb→lt _ _)
    where
      go : (b : Bool) → (Yes b → c.line < length T) →
          cond b (cond (ltb c.row (length R)) (of_forms g c.ruling (forms R c.row (line_at T c.line))) none) none ≡
          cond b (cond (ltb c.row (length R)) (of_forms h c.ruling (forms R c.row (line_at T c.line))) none) none
      go true p =
          ap (λ x. cond (ltb c.row (length R)) x none)
          (forms_same c.ruling (forms R c.row (line_at T c.line)) (below R c.row n (line_at T c.line) (subst (λ x. Earlier x (line_at T c.line)) e (earlier_at T wf c.line (p tt)))))
      go false p = refl

-- sizes
lower_assoc : (a b c : ℕ) → lower_cell (lower_cell a b) c ≡ lower_cell a (lower_cell b c)
lower_assoc zero b c = refl
lower_assoc (suc a) zero c = refl
lower_assoc (suc a) (suc b) zero = go (min (suc a) (suc b))
  where
    go : (x : ℕ) → lower_cell x 0 ≡ x
    go zero = refl
    go (suc x) = refl
lower_assoc (suc a) (suc b) (suc c) = go (min (suc a) (suc b)) (min (suc b) (suc c)) refl refl
  where
    go : (x y : ℕ) → x ≡ min (suc a) (suc b) → y ≡ min (suc b) (suc c) → lower_cell x (suc c) ≡ lower_cell (suc a) y
    go zero y p q = absurd (omega arith)
    go (suc x) zero p q = absurd (omega arith)
    go (suc x) (suc y) p q = omega arith

pub best_both : (g : Claim → ℕ) (xs ys : List Step) → best_cell g (xs ++ ys) ≡ lower_cell (best_cell g xs) (best_cell g ys)
unfolding best_cell
best_both g [] ys = refl
best_both g (x ∷ xs) ys = ap (lower_cell (sum_cells g 1 x.kids)) (best_both g xs ys) ∙ sym (lower_assoc (sum_cells g 1 x.kids) (best_cell g xs) (best_cell g ys))

merge_size : (a b : Best) → (merge a b).size ≡ lower_cell a.size b.size
merge_size a b = go a.size b.size refl refl
  where
    at : (x y : ℕ) (t : Bool) → a.size ≡ suc x → b.size ≡ suc y → (Yes t → suc x ≤ suc y) → (Yes (not t) → suc y < suc x) → (cond t a b).size ≡ min (suc x) (suc y)
    at x y true p q h k = let z = h tt in omega arith
    at x y false p q h k = let z = k tt in omega arith

    go : (x y : ℕ) → a.size ≡ x → b.size ≡ y → (cond (first_of x y) a b).size ≡ lower_cell x y
    go zero y p q = q
    go (suc x) zero p q = p
    go (suc x) (suc y) p q = at x y (leb (suc x) (suc y)) p q (leb→le _ _) (nleb→lt _ _)

choice_size : (n p : ℕ) → (choice n p).size ≡ lower_cell n 0
choice_size zero p = refl
choice_size (suc n) p = refl

pub way_size : (g : Claim → ℕ) (f : Form) (j : ℕ) → (way_by g f j).size ≡ best_cell g (guard (f.meets j) (by f.number (f.kids j) ∷ []))
unfolding best_cell guard
way_size g f j = one (f.meets j)
  where
    one : (b : Bool) → (offer b (sum_cells g 1 (f.kids j)) (256 * f.number + j)).size ≡ best_cell g (guard b (by f.number (f.kids j) ∷ []))
    one true = choice_size (sum_cells g 1 (f.kids j)) _
    one false = refl

pub ways_size : (g : Claim → ℕ) (f : Form) (js : List ℕ) → (of_ways g f js).size ≡ best_cell g (for_each (λ j. guard (f.meets j) (by f.number (f.kids j) ∷ [])) js)
unfolding of_ways for_each best_cell
ways_size g f [] = refl
ways_size g f (j ∷ js) =
    merge_size (way_by g f j) (of_ways g f js) ∙ ap₂ lower_cell (way_size g f j) (ways_size g f js) ∙ sym (best_both g (guard (f.meets j) (by f.number (f.kids j) ∷ [])) _)

pub one_size : (g : Claim → ℕ) (r : Ruling) (f : Form) → (cond (same_ruling f.ruling r) (of_ways g f (run f.first f.count)) none).size ≡ best_cell g (guard (same_ruling f.ruling r) (ways_of f))
unfolding guard best_cell
one_size g r f = one (same_ruling f.ruling r)
  where
    one : (b : Bool) → (cond b (of_ways g f (run f.first f.count)) none).size ≡ best_cell g (guard b (ways_of f))
    one true = ways_size g f (run f.first f.count)
    one false = refl

pub forms_size : (g : Claim → ℕ) (r : Ruling) (fs : List Form) → (of_forms g r fs).size ≡ best_cell g (ways_in r fs)
unfolding of_forms ways_in best_cell
forms_size g r [] = refl
forms_size g r (f ∷ fs) =
    merge_size (cond (same_ruling f.ruling r) (of_ways g f (run f.first f.count)) none) (of_forms g r fs) ∙ ap₂ lower_cell (one_size g r f) (forms_size g r fs) ∙
    sym (best_both g (guard (same_ruling f.ruling r) (ways_of f)) (ways_in r fs))

best_size : (g : Claim → ℕ) (T : Rules) (R : List Row) (c : Claim) → (best_by g T R c).size ≡ best_cell g (steps T R c)
unfolding best_by guard best_cell
best_size g T R c = go (ltb c.line (length T)) (ltb c.row (length R))
  where
    fs : List Form
    fs = forms R c.row (line_at T c.line)

    go : (a b : Bool) → (cond a (cond b (of_forms g c.ruling fs) none) none).size ≡ best_cell g (guard a (guard b (ways_in c.ruling fs)))
    go true true = forms_size g c.ruling fs
    go true false = refl
    go false b = refl

-- a claim's cell in a table that is filled beyond it
read_filled : (f : ℕ → ℕ) (p : ℕ) (s old : List ℕ) → s ≡ filled f p old → (k : Claim) → k.row < 128 → 256 * k.line + 256 ≤ p → (cell_in s k ≡ f (place k)) × (claim_at (place k) ≡ k)
read_filled f p s old e k h l =
    (sym (read_at s k h) ∙ ap (λ x. get_or x (place k) 0) e ∙ filled_get f p (place k) old (low k.ruling), claim_of k h)
  where
    low : (r : Ruling) → place (claim k.line k.row r) < p
    low held = omega arith
    low broken = omega arith

module _ (T : Rules) (wf : WellFormed T) (R : List Row) where
  -- the best way has the size of the shortest certificate
  pub size_is : (c : Claim) → (best_by (cell_of T R) T R c).size ≡ cell_of T R c
  size_is c = best_size (cell_of T R) T R c ∙ cell_at T wf R (cell_of T R) c (λ k l. refl)

  no_row : (k : Claim) → length R ≤ k.row → cell_of T R k ≡ 0
  no_row k h = sym (size_is k) ∙ ap (λ (b : Best). b.size) (sym (best_out (cell_of T R) T R k.line k.row k.ruling (λ _. h)))

  -- cells of earlier lines, read off the table as it is filled
  pub read_same : length R ≤ 128 → (n p : ℕ) (s old : List ℕ) → s ≡ filled (size_at T R) p old → 256 * n ≤ p → (k : Claim) → k.line < n → cell_in s k ≡ cell_of T R k
  unfolding size_at
  read_same few n p s old e h k l =
      elim (dec_lt k.row 128) [
        | yes q ↦ let r = read_filled (size_at T R) p s old e k q (omega arith) in r.0 ∙ ap (cell_of T R) r.1
        | no q ↦ sym (read_none s k (omega arith)) ∙ sym (no_row k (omega arith))
      ]

  -- the cells of a filled plan
  pub read_code : (s old : List ℕ) → s ≡ filled (code_at T R) 8192 old → (k : Claim) → k.line < 32 → k.row < 128 → cell_in s k ≡ (best_by (cell_of T R) T R k).code
  unfolding code_at
  read_code s old e k l q = let r = read_filled (code_at T R) 8192 s old e k q (omega arith) in r.0 ∙ ap (λ x. (best_by (cell_of T R) T R x).code) r.1

  pub best_right : length R ≤ 128 → (p : ℕ) (s old : List ℕ) (c : Claim) → s ≡ filled (size_at T R) p old → 256 * c.line ≤ p → best_by (cell_in s) T R c ≡ best_by (cell_of T R) T R c
  best_right few p s old c e h = best_same (cell_in s) (cell_of T R) c.line (read_same few c.line p s old e h) T R wf c refl

  -- what the code finds for a claim is what belongs into its cells
  pub found : length R ≤ 128 → (c : Claim) (p q : ℕ) (s old : List ℕ) (b : Best) → c.row < 128 → 256 * c.line ≤ p → q ≡ place c → s ≡ filled (size_at T R) p old →
      b ≡ best_by (cell_in s) T R c → (b.size ≡ size_at T R q) × (b.code ≡ code_at T R q)
  unfolding size_at code_at
  found few c p q s old b h l at e k =
      let z = k ∙ best_right few p s old c e l in
      let d = sym (ap claim_at at ∙ claim_of c h) in
      (ap (λ (x : Best). x.size) z ∙ size_is c ∙ ap (cell_of T R) d, ap (λ (x : Best). x.code) z ∙ ap (λ x. (best_by (cell_of T R) T R x).code) d)

  -- cells of no line or no row
  pub absent : (p : ℕ) → (p / 256 < length T → length R ≤ p % 256 / 2) → (size_at T R p ≡ 0) × (code_at T R p ≡ 0)
  unfolding size_at code_at
  absent p h =
      let b = best_out (cell_of T R) T R (p / 256) (p % 256 / 2) (cond (eqb (p % 2) 0) held broken) h in
      (sym (size_is (claim_at p)) ∙ ap (λ (x : Best). x.size) (sym b), ap (λ (x : Best). x.code) (sym b))
