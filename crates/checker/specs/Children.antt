-- The children's lines, rulings and rows.
use Rattle.std.specs.Prelude.{ℕ, ◌-◌, Bool, true, false, cond, ◌&&◌, ◌||◌, List, [], ◌∷◌, map, filter, ◌==◌, nat_eq}
use Rattle.std.specs.List.{list_all, range_with_len}
use Rattle.std.specs.Cmp.Lexicographic.{pointwise}
use Rattle.mtl.specs.declared.row.Row.{Row}
use Rattle.mtl.specs.declared.line.Window.{Window}
use Rattle.mtl.specs.declared.ruling.Claim.{Claim}
use Rattle.mtl.specs.declared.ruling.Ruling.{Ruling}
use Rattle.mtl.specs.declared.ruling.Ruling.TheVariants.{Held, Broken}
use Rattle.mtl.specs.Claims.{same_ruling}
use Rattle.mtl.specs.Windows.{inside}
use Rattle.checker.specs.declared.view.Side.{Side}
use Rattle.checker.specs.Parts.{between}

abbrev pub is_of : ℕ → Ruling → Claim → Bool
is_of n r c = n == c.line && same_ruling r c.ruling

abbrev pub all_of : ℕ → Ruling → List Claim → Bool
all_of n r cs = list_all (is_of n r) cs

-- the first is of line a, the others of line b, all ruled r
abbrev pub first_then_of : ℕ → ℕ → Ruling → List Claim → Bool
first_then_of a b r [] = false
first_then_of a b r (c ∷ cs) = is_of a r c && all_of b r cs

-- of as many children as rule n takes, the lines and rulings that it shows
abbrev pub lines_shown : ℕ → ℕ → ℕ → List Claim → Bool
lines_shown n left right cs =
    cond (n == 3 || n == 6 || n == 12 || n == 17) (all_of left Broken cs)
    (cond (n == 4 || n == 8 || n == 11 || n == 16) (all_of left Held cs)
    (cond (n == 7 || n == 22 || n == 26) (all_of right Broken cs)
    (cond (n == 9) (all_of right Held cs)
    (cond (n == 5) (first_then_of left right Held cs)
    (cond (n == 10 || n == 21 || n == 25) (first_then_of left right Broken cs)
    (cond (n == 20 || n == 24) (first_then_of right left Held cs) true))))))

abbrev pub all_at : ℕ → List Claim → Bool
all_at i cs = list_all (λ c. i == c.row) cs

-- the children stand at these rows, one each and in order
abbrev pub rows_are : List ℕ → List Claim → Bool
rows_are ks cs = pointwise nat_eq ks (map (λ c. c.row) cs)

-- of the rows from first to before end, those whose difference from row i is inside
abbrev pub chosen : List Row → Side → Window → ℕ → ℕ → ℕ → List ℕ
chosen R side w i first end = filter (λ k. inside w (between R side i k)) (range_with_len first (end - first))

-- what is asked of the first child's row and of the others
abbrev pub led : (ℕ → List Claim → Bool) → List Claim → Bool
led f [] = false
led f (c ∷ cs) = f c.row cs
