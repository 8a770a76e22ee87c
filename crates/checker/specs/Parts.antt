-- A line's parts side by side, and the differences of times that its rules look at.
use Rattle.std.specs.Prelude.{ℕ, ◌+◌, ◌-◌, cond, List, length, Some, None, Option, nat_lt}
use Rattle.mtl.specs.declared.row.Row.{Row}
use Rattle.mtl.specs.declared.line.Window.{Window}
use Rattle.mtl.specs.declared.line.Line.{Line}
use Rattle.mtl.specs.declared.line.Line.TheVariants.{Mark as mark, Not as neg, And as and, Or as or, Previous as previous, Next as next, Since as since, Until as until}
use Rattle.mtl.specs.declared.line.Kind.{Kind}
use Rattle.mtl.specs.declared.line.Kind.TheVariants.{Mark, Not, And, Or, Previous, Next, Since, Until}
use Rattle.mtl.specs.Rows.{time_at}
use Rattle.mtl.specs.Windows.{wide}
use Rattle.proof_rules.specs.declared.standing.Interval.{Interval}
use Rattle.checker.specs.declared.parts.Parts.{Parts}
use Rattle.checker.specs.declared.view.Side.{Side}
use Rattle.checker.specs.declared.view.Side.TheVariants.{Before, After}

abbrev pub parts_in : Kind → Window → ℕ → ℕ → Parts
parts_in k w l r = record { kind = k; window = w; left = l; right = r }

abbrev pub parts_of : Line → Parts
parts_of (mark m) = parts_in Mark (wide 0) m 0
parts_of (neg l) = parts_in Not (wide 0) l 0
parts_of (and l r) = parts_in And (wide 0) l r
parts_of (or l r) = parts_in Or (wide 0) l r
parts_of (previous w l) = parts_in Previous w l 0
parts_of (next w l) = parts_in Next w l 0
parts_of (since w l r) = parts_in Since w l r
parts_of (until w l r) = parts_in Until w l r

-- how far row k lies before or after row i
abbrev pub between : List Row → Side → ℕ → ℕ → ℕ
between R Before i k = time_at R i - time_at R k
between R After i k = time_at R k - time_at R i

-- for previous and next, how far the row beside row i lies, if there is one
abbrev pub beside : List Row → Kind → ℕ → Option ℕ
beside R Mark i = None
beside R Not i = None
beside R And i = None
beside R Or i = None
beside R Previous i = cond (nat_lt 0 i) (Some (time_at R i - time_at R (i - 1))) None
beside R Next i = cond (nat_lt (i + 1) (length R)) (Some (time_at R (i + 1) - time_at R i)) None
beside R Since i = None
beside R Until i = None

-- that interval, against the line's window
abbrev pub interval_of : List Row → ℕ → Parts → Interval
interval_of R i p = record { window = p.window; gap = beside R p.kind i }
