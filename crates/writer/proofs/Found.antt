-- A line that the table was asked for.
use Rattle.std.proofs.Common.{◌≡◌, ℕ, ◌<◌, ◌≤◌, Bool, true, false, cond, T as Yes, ltb, List, length, Some, None, arith, ltb→lt, lt→ltb}
use Rattle.mtl.specs.declared.table.Table.{Table}
use Rattle.mtl.specs.Lines.{Rules, line_at, line_in}
use Rattle.mtl.specs.declared.line.Line.{Line}
use Rattle.mtl.specs.declared.row.Row.{Row}
use Rattle.writer.specs.Tables.{Given}
use Rattle.mtl.specs.Rows.{NeverFalls}
use Rattle.mtl.specs.Tables.{lines_of}

pub line_some : (T : Rules) (n : ℕ) (l : Line) → line_in T n ≡ Some l → (n < length T) × (line_at T n ≡ l)
line_some T n l e = go (ltb n (length T)) (ltb→lt _ _) e
  where
    go : (b : Bool) → (Yes b → n < length T) → cond b (Some (line_at T n)) None ≡ Some l → (n < length T) × (line_at T n ≡ l)
    go true h e = (h tt, cc)
    go false h e = let z : ◌≡◌ {A = ℕ} 0 1 = cc in absurd (omega arith)

pub line_none : (T : Rules) (n : ℕ) → line_in T n ≡ None → n < length T → ⊥
line_none T n e h = go (ltb n (length T)) (lt→ltb _ _ h) e
  where
    go : (b : Bool) → Yes b → cond b (Some (line_at T n)) None ≡ None → ⊥
    go true t e = let z : ◌≡◌ {A = ℕ} 0 1 = cc in absurd (omega arith)
    go false t e = absurd t

-- a table and the rows of a log are as the passes want them
pub given_of : (t : Table) (R : List Row) → length R ≤ 128 → NeverFalls R → Given (lines_of t) R
given_of t R few up = record {
  few_lines = t.few;
  few_rows = few;
  ordered = t.formed;
  rising = up;
}
