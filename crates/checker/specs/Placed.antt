-- The children's rows and the conditions, rule by rule: i is the node's row, j the first child's, cs the other children or all.
use Rattle.std.specs.Prelude.{ℕ, ◌+◌, ◌-◌, Bool, true, cond, not, ◌&&◌, ◌||◌, List, length, ◌==◌, nat_le, nat_lt}
use Rattle.mtl.specs.declared.row.Row.{Row}
use Rattle.mtl.specs.declared.line.Window.{Window}
use Rattle.mtl.specs.declared.ruling.Claim.{Claim}
use Rattle.mtl.specs.Rows.{row_at, stands}
use Rattle.mtl.specs.Windows.{inside, up_to, past, wide}
use Rattle.checker.specs.declared.parts.Parts.{Parts}
use Rattle.checker.specs.declared.view.Side.TheVariants.{Before, After}
use Rattle.checker.specs.Parts.{between}
use Rattle.proof_rules.specs.Rule.{within}
use Rattle.checker.specs.Children.{all_at, rows_are, chosen, led}

abbrev pub since_held : List Row → Window → ℕ → ℕ → List Claim → Bool
since_held R w i j cs =
    rows_are (chosen R Before (wide 0) i (j + 1) (i + 1)) cs && (nat_le j i && inside w (between R Before i j))

abbrev pub since_broken : List Row → Window → ℕ → ℕ → List Claim → Bool
since_broken R w i j cs =
    rows_are (chosen R Before (wide w.from) i j (i + 1)) cs &&
    (nat_le 1 j && (nat_le j i && (up_to w.to (between R Before i (j - 1)) && nat_le w.from (between R Before i 0))))

abbrev pub until_held : List Row → Window → ℕ → ℕ → List Claim → Bool
until_held R w i j cs =
    rows_are (chosen R After (wide 0) i i j) cs && (nat_le i j && (nat_lt j (length R) && inside w (between R After i j)))

abbrev pub until_broken : List Row → Window → ℕ → ℕ → List Claim → Bool
until_broken R w i j cs =
    rows_are (chosen R After (wide w.from) i i (j + 1)) cs &&
    (nat_le i j && (nat_lt j (length R) && up_to w.to (between R After i j)))

-- rules 20, 21, 24 and 25
abbrev pub led_by : List Row → ℕ → Window → ℕ → ℕ → List Claim → Bool
led_by R n w i j cs =
    cond (n == 20) (since_held R w i j cs)
    (cond (n == 21) (since_broken R w i j cs)
    (cond (n == 24) (until_held R w i j cs) (until_broken R w i j cs)))

-- rule n at row i, the interval to the row beside apart
abbrev pub placed : List Row → ℕ → Parts → ℕ → List Claim → Bool
placed R n p i cs =
    cond (n == 1) (stands (row_at R i) p.left)
    (cond (n == 2) (not (stands (row_at R i) p.left))
    (cond (within 3 10 n) (all_at i cs)
    (cond (within 11 12 n) (all_at (i - 1) cs)
    (cond (within 16 17 n) (all_at (i + 1) cs)
    (cond (within 20 21 n || within 24 25 n) (led (led_by R n p.window i) cs)
    (cond (n == 22) (rows_are (chosen R Before p.window i 0 (i + 1)) cs && nat_le p.window.from (between R Before i 0))
    (cond (n == 23) (nat_lt (between R Before i 0) p.window.from)
    (cond (n == 26)
    (rows_are (chosen R After p.window i i (length R)) cs && past p.window.to (between R After i (length R - 1)))
    true))))))))
