-- The two tables that are filled: a cell for each line, row and ruling.
use Rattle.std.specs.Prelude.{ℕ, ◌≤◌, cond, List, ◌++◌, map, length, drop, nat_lt}
use Rattle.mtl.specs.Cells.{cell}
use Rattle.mtl.specs.Forms.{forms}
use Rattle.mtl.specs.Lines.{Rules, line_at, WellFormed}
use Rattle.mtl.specs.Ranges.{run}
use Rattle.mtl.specs.Rows.{NeverFalls}
use Rattle.mtl.specs.Shortest.{certificate}
use Rattle.mtl.specs.declared.row.Row.{Row}
use Rattle.mtl.specs.declared.ruling.Claim.{Claim}
use Rattle.writer.specs.Choice.{Best, none, of_forms}
use Rattle.mtl.specs.Buffers.{claim_at}

-- the best way to rule a claim, by the cells of others: none without line or row
unfoldable pub best_by : (Claim → ℕ) → Rules → List Row → Claim → Best
best_by g T R c = cond (nat_lt c.line (length T)) (cond (nat_lt c.row (length R)) (of_forms g c.ruling (forms R c.row (line_at T c.line))) none) none

-- a claim's cell: the size of its shortest certificate
abbrev pub cell_of : Rules → List Row → Claim → ℕ
cell_of T R c = cell (certificate T R c)

-- the size that belongs into cell p of the first table
unfoldable pub size_at : Rules → List Row → ℕ → ℕ
size_at T R p = cell_of T R (claim_at p)

-- the way that belongs into cell p of the second
unfoldable pub code_at : Rules → List Row → ℕ → ℕ
code_at T R p = (best_by (cell_of T R) T R (claim_at p)).code

-- old with the first n cells filled
unfoldable pub filled : (ℕ → ℕ) → ℕ → List ℕ → List ℕ
filled f n old = map f (run 0 n) ++ drop n old

-- what the passes want of a table and its rows
pub record Given (T : Rules) (R : List Row) : Type 0 where
  pub few_lines : length T ≤ 32
  pub few_rows : length R ≤ 128
  pub ordered : WellFormed T
  pub rising : NeverFalls R
