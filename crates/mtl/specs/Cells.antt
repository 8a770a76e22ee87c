-- The cell of a claim: the least size, 4,097 for all above 4,096, 0 for none; and how cells follow from cells.
use Rattle.std.specs.Prelude.{ℕ, zero, suc, ◌+◌, min, Bool, true, false, cond, List, [], ◌∷◌, length, Some, None, Option, nat_le}
use Rattle.mtl.specs.Claims.{Claim, Node}
use Rattle.mtl.specs.Forms.{Step}

-- a cell: the size, 4097 for all above 4096, 0 for none
abbrev pub cell : Option (List Node) → ℕ
cell None = 0
cell (Some ns) = min (length ns) 4097

-- sums and choices of cells: 0 stands for none
abbrev pub add_cell : ℕ → ℕ → ℕ
add_cell zero b = 0
add_cell (suc a) zero = 0
add_cell (suc a) (suc b) = min (suc a + suc b) 4097

abbrev pub lower_cell : ℕ → ℕ → ℕ
lower_cell zero b = b
lower_cell (suc a) zero = suc a
lower_cell (suc a) (suc b) = min (suc a) (suc b)

-- the sum of the children's cells on top of a
unfoldable pub sum_cells : (Claim → ℕ) → ℕ → List Claim → ℕ
sum_cells f a [] = a
sum_cells f a (c ∷ cs) = sum_cells f (add_cell a (f c)) cs

unfoldable pub best_cell : (Claim → ℕ) → List Step → ℕ
best_cell f [] = 0
best_cell f (s ∷ ss) = lower_cell (sum_cells f 1 s.kids) (best_cell f ss)

-- the step that the plan has for a claim: the first of least cost
abbrev pub first_of : ℕ → ℕ → Bool
first_of zero y = false
first_of (suc x) zero = true
first_of (suc x) (suc y) = nat_le (suc x) (suc y)

unfoldable pub planned : (Claim → ℕ) → List Step → Option Step
planned g [] = None
planned g (s ∷ ss) = cond (first_of (sum_cells g 1 s.kids) (best_cell g ss)) (Some s) (planned g ss)
