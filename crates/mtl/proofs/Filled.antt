use Rattle.std.proofs.Common.{◌≡◌, ℕ, zero, suc, ◌+◌, ◌<◌, ◌≤◌, min, Bool, true, false, cond, not, T as Yes, leb, List, [], ◌∷◌, length, Some, None, Option, sym, refl, ap, ◌∙◌, subst, ap₂, arith, leb→le, length-append}
use lib.Dec.{nleb→lt}
use Rattle.mtl.specs.Cells.{cell, add_cell, lower_cell, sum_cells, best_cell}
use Rattle.mtl.specs.Certificates.{node_of}
use Rattle.mtl.specs.Claims.{Claim, Node}
use Rattle.mtl.specs.Forms.{Step, steps}
use Rattle.mtl.specs.Lines.{Rules, WellFormed}
use Rattle.mtl.specs.Rows.{Row}
use Rattle.mtl.specs.Shortest.{chained, shorter, of_all, of_any, written, certificate}
use Rattle.mtl.specs.Lists.{AllOf}
use Rattle.mtl.proofs.Lists.{all_weaken}
use Rattle.mtl.proofs.Shortest.{lower}
use Rattle.mtl.proofs.Ways.{good as steps_follow}

-- a size on top of a number of nodes that stand already
pub top : ℕ → Option (List Node) → ℕ
top a None = 0
top a (Some ns) = min (a + length ns) 4097

-- certificates are not empty
abbrev pub Filled : Option (List Node) → Type 0
Filled None = Unit {0}
Filled (Some ns) = 1 ≤ length ns

add_cell_lem : (a : ℕ) (ns : List Node) (o : Option (List Node)) → 1 ≤ a → 1 ≤ length ns → add_cell (min a 4097) (cell (Some ns)) ≡ min (a + length ns) 4097
add_cell_lem a ns o p q = go (min a 4097) (min (length ns) 4097) (omega arith) (omega arith) (omega arith)
  where
    go : (x y : ℕ) → 1 ≤ x → 1 ≤ y → min (a + length ns) 4097 ≡ min (x + y) 4097 → add_cell x y ≡ min (a + length ns) 4097
    go zero y p q e = absurd (omega arith)
    go (suc x) zero p q e = absurd (omega arith)
    go (suc x) (suc y) p q e = sym e

sum_none : (f : Claim → ℕ) (cs : List Claim) → sum_cells f 0 cs ≡ 0
unfolding sum_cells
sum_none f [] = refl
sum_none f (c ∷ cs) = sum_none f cs

add_none : (a : ℕ) → add_cell a 0 ≡ 0
add_none zero = refl
add_none (suc a) = refl

-- the children's cells add up to the cell of all of them
pub sum_cells_lem : (f : Claim → Option (List Node)) (g : Claim → ℕ) (a : ℕ) (cs : List Claim) → 1 ≤ a → AllOf (λ c. (g c ≡ cell (f c)) × Filled (f c)) cs →
    sum_cells g (min a 4097) cs ≡ top a (of_all f cs)
unfolding sum_cells of_all top
sum_cells_lem f g a [] p h = omega arith
sum_cells_lem f g a (c ∷ cs) p h = go (f c) h.0.0 h.0.1 (λ b q. sum_cells_lem f g b cs q h.1)
  where
    go : (o : Option (List Node)) → g c ≡ cell o → Filled o → ((b : ℕ) → 1 ≤ b → sum_cells g (min b 4097) cs ≡ top b (of_all f cs)) →
        sum_cells g (add_cell (min a 4097) (g c)) cs ≡ top a (chained o (of_all f cs))
    go None e q ih = ap (λ x. sum_cells g x cs) (ap (add_cell (min a 4097)) e ∙ add_none (min a 4097)) ∙ sum_none g cs
    go (Some ns) e q ih =
        ap (λ x. sum_cells g x cs) (ap (add_cell (min a 4097)) e ∙ add_cell_lem a ns None p q) ∙
        (ih (a + length ns) (omega arith) ∙ at (of_all f cs))
      where
        at : (o : Option (List Node)) → top (a + length ns) o ≡ top a (chained (Some ns) o)
        at None = refl
        at (Some ms) = let e = length-append ns ms in omega arith

pub close : (o : Option (List Node)) (d : Node) → top 1 o ≡ cell (chained o (Some (d ∷ [])))
unfolding top
close None d = refl
close (Some ns) d = let e = length-append ns (d ∷ []) in omega arith

pub lower_cell_lem : (o p : Option (List Node)) → Filled o → Filled p → lower_cell (cell o) (cell p) ≡ cell (shorter o p)
lower_cell_lem None p h k = refl
lower_cell_lem (Some a) None h k = go (min (length a) 4097)
  where
    go : (x : ℕ) → lower_cell x 0 ≡ x
    go zero = refl
    go (suc x) = refl
lower_cell_lem (Some a) (Some b) h k = go (min (length a) 4097) (min (length b) 4097) (omega arith) (omega arith) refl refl ∙ at (leb (length a) (length b)) (leb→le _ _) (nleb→lt _ _)
  where
    go : (x y : ℕ) → 1 ≤ x → 1 ≤ y → x ≡ min (length a) 4097 → y ≡ min (length b) 4097 → lower_cell x y ≡ min (min (length a) 4097) (min (length b) 4097)
    go zero y p q e f = absurd (omega arith)
    go (suc x) zero p q e f = absurd (omega arith)
    go (suc x) (suc y) p q e f = omega arith

    at : (t : Bool) → (Yes t → length a ≤ length b) → (Yes (not t) → length b < length a) →
        min (min (length a) 4097) (min (length b) 4097) ≡ cell (cond t (Some a) (Some b))
    at true f g = let x = f tt in omega arith
    at false f g = let x = g tt in omega arith

pub filled_chained : (o : Option (List Node)) (d : Node) → Filled (chained o (Some (d ∷ [])))
filled_chained None d = tt
filled_chained (Some ns) d = let e = length-append ns (d ∷ []) in omega arith

filled_shorter : (o p : Option (List Node)) → Filled o → Filled p → Filled (shorter o p)
filled_shorter None p h k = k
filled_shorter (Some a) None h k = h
filled_shorter (Some a) (Some b) h k = go (leb (length a) (length b))
  where
    go : (t : Bool) → Filled (cond t (Some a) (Some b))
    go true = h
    go false = k

pub filled_any : (f : Claim → Option (List Node)) (c : Claim) (ss : List Step) → Filled (of_any f c ss)
unfolding of_any
filled_any f c [] = tt
filled_any f c (s ∷ ss) =
    filled_shorter (chained (of_all f s.kids) (Some (node_of s.rule c s.kids ∷ []))) (of_any f c ss) (filled_chained (of_all f s.kids) _) (filled_any f c ss)

pub best_cell_lem : (f : Claim → Option (List Node)) (g : Claim → ℕ) (c : Claim) (ss : List Step) → AllOf (λ s. AllOf (λ k. (g k ≡ cell (f k)) × Filled (f k)) s.kids) ss →
    best_cell g ss ≡ cell (of_any f c ss)
unfolding best_cell of_any
best_cell_lem f g c [] h = refl
best_cell_lem f g c (s ∷ ss) h =
    ap₂ lower_cell (sum_cells_lem f g 1 s.kids (omega arith) h.0 ∙ close (of_all f s.kids) _) (best_cell_lem f g c ss h.1) ∙
    lower_cell_lem (chained (of_all f s.kids) (Some (node_of s.rule c s.kids ∷ []))) (of_any f c ss) (filled_chained (of_all f s.kids) _) (filled_any f c ss)

all_same : (f g : Claim → Option (List Node)) (cs : List Claim) → AllOf (λ c. f c ≡ g c) cs → of_all f cs ≡ of_all g cs
unfolding of_all
all_same f g [] h = refl
all_same f g (c ∷ cs) h = ap₂ chained h.0 (all_same f g cs h.1)

any_same : (f g : Claim → Option (List Node)) (c : Claim) (ss : List Step) → AllOf (λ s. AllOf (λ k. f k ≡ g k) s.kids) ss → of_any f c ss ≡ of_any g c ss
unfolding of_any
any_same f g c [] h = refl
any_same f g c (s ∷ ss) h =
    ap₂ (λ x y. shorter (chained x (Some (node_of s.rule c s.kids ∷ []))) y) (all_same f g s.kids h.0) (any_same f g c ss h.1)

module _ (T : Rules) (wf : WellFormed T) (R : List Row) where
  -- what holds of each claim on an earlier line holds of each child of each step
  pub on_kids : (P : Claim → Type 0) (c : Claim) → ((k : Claim) → k.line < c.line → P k) → AllOf (λ s. AllOf P s.kids) (steps T R c)
  on_kids P c h = all_weaken _ _ (steps T R c) (λ s f. all_weaken (λ (k : Claim). k.line < c.line) P s.kids h (lower T wf R f)) (steps_follow T R c)

  written_same : (d e : ℕ) (c : Claim) → c.line < d → c.line < e → written T R d c ≡ written T R e c
  unfolding written
  written_same zero e c p q = absurd (omega arith)
  written_same (suc d) zero c p q = absurd (omega arith)
  written_same (suc d) (suc e) c p q =
      any_same (written T R d) (written T R e) c (steps T R c) (on_kids _ c (λ k l. written_same d e k (omega arith) (omega arith)))

  pub certificate_at : (c : Claim) → certificate T R c ≡ of_any (certificate T R) c (steps T R c)
  unfolding certificate written
  certificate_at c = any_same (written T R c.line) (certificate T R) c (steps T R c) (on_kids _ c (λ k l. written_same c.line (suc k.line) k l (omega arith)))

  -- a cell is worked out from the cells of earlier lines
  pub cell_at : (g : Claim → ℕ) (c : Claim) → ((k : Claim) → k.line < c.line → g k ≡ cell (certificate T R k)) → best_cell g (steps T R c) ≡ cell (certificate T R c)
  cell_at g c h =
      best_cell_lem (certificate T R) g c (steps T R c)
      (on_kids _ c (λ k l. (h k l, subst Filled (sym (certificate_at k)) (filled_any (certificate T R) k (steps T R k))))) ∙
      ap cell (sym (certificate_at c))
