-- What Settle leaves in the buffers that it is lent.
use Rattle.std.specs.Prelude.{◌≡◌, ℕ, ◌/◌, ◌%◌, Bool, false, cond, List, ◌++◌, map, length, drop, Ok, Err, Result, ◌==◌, nat_le}
use Rattle.mtl.specs.Rows.{Row}
use Rattle.mtl.specs.Lines.{Rules}
use Rattle.mtl.specs.Ranges.{run}
use Rattle.mtl.specs.Claims.{Claim, held, broken, claim}
use Rattle.mtl.specs.Shortest.{certificate}
use Rattle.mtl.specs.Cells.{cell}
use Rattle.mtl.specs.Settling.{Settled, settle_writes, wrote}

-- the claim whose least size stands in cell k: 256 cells a line, two a row, held before broken
abbrev pub claim_at : ℕ → Claim
claim_at k = claim (k / 256) (k % 256 / 2) (cond (k % 2 == 0) held broken)

unfoldable pub cells : Rules → List Row → List ℕ
cells T R = map (λ k. cell (certificate T R (claim_at k))) (run 0 8192)

-- the answer came before the buffers were worked on
abbrev pub early : Result Settled ℕ → Bool
early (Ok s) = false
early (Err q) = nat_le q 23

pub record Fills (T : Rules) (R : List Row) (n i : ℕ) (a : Result Settled ℕ) (sizes sizes' plan plan' out out' : List ℕ) : Type 0 where
  pub sizes_are : sizes' ≡ cond (early a) sizes (cells T R ++ drop 8192 sizes)
  pub plan_kept : drop (cond (early a) 0 8192) plan' ≡ drop (cond (early a) 0 8192) plan
  pub written : wrote a out' ≡ settle_writes T R n i a
  pub out_kept : drop (length (wrote a out')) out' ≡ drop (length (wrote a out')) out
