-- The formula that a line stands for, and its truth.
use Rattle.std.specs.Prelude.{ℕ, zero, suc, ◌+◌, ◌-◌, ◌<◌, ◌≤◌, ◌⊎◌}
use Rattle.mtl.specs.Rows.{Row, Stands}
use Rattle.mtl.specs.Lines.{Window, Line, mark, neg, and, or, previous, next, since, until, Rules, line_at}
use Rattle.mtl.specs.Windows.{Inside}

pub data Formula : Type 0 where
  Mark : ℕ → Formula
  Not : Formula → Formula
  And : Formula → Formula → Formula
  Or : Formula → Formula → Formula
  Previous : Window → Formula → Formula
  Next : Window → Formula → Formula
  Since : Window → Formula → Formula → Formula
  Until : Window → Formula → Formula → Formula

-- a line, with a formula for each of its operands
abbrev pub shape : (ℕ → Formula) → Line → Formula
shape f (mark m) = Mark m
shape f (neg l) = Not (f l)
shape f (and l r) = And (f l) (f r)
shape f (or l r) = Or (f l) (f r)
shape f (previous w l) = Previous w (f l)
shape f (next w l) = Next w (f l)
shape f (since w l r) = Since w (f l) (f r)
shape f (until w l r) = Until w (f l) (f r)

-- line n written out, as far as lines before it go d deep
unfoldable pub unrolled : Rules → ℕ → ℕ → Formula
unrolled T zero n = Mark 0
unrolled T (suc d) n = shape (unrolled T d) (line_at T n)

-- the formula of line n: operands are earlier lines, so they go at most n deep
unfoldable pub formula : Rules → ℕ → Formula
formula T n = unrolled T (suc n) n

-- truth of a formula at row i of an endless list of rows
abbrev pub Truth : (ℕ → Row) → Formula → ℕ → Type 0
Truth ρ (Mark m) i = Stands (ρ i) m
Truth ρ (Not f) i = Truth ρ f i → ⊥
Truth ρ (And f g) i = Truth ρ f i × Truth ρ g i
Truth ρ (Or f g) i = Truth ρ f i ⊎ Truth ρ g i
Truth ρ (Previous w f) i = (0 < i) × Inside w ((ρ i).time - (ρ (i - 1)).time) × Truth ρ f (i - 1)
Truth ρ (Next w f) i = Inside w ((ρ (i + 1)).time - (ρ i).time) × Truth ρ f (i + 1)
Truth ρ (Since w f g) i =
    (j : ℕ) × (j ≤ i) × Inside w ((ρ i).time - (ρ j).time) × Truth ρ g j × ((k : ℕ) → j < k → k ≤ i → Truth ρ f k)
Truth ρ (Until w f g) i =
    (j : ℕ) × (i ≤ j) × Inside w ((ρ j).time - (ρ i).time) × Truth ρ g j × ((k : ℕ) → i ≤ k → k < j → Truth ρ f k)
