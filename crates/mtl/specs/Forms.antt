-- The proof rules once more, in executable form: for checking a node and for enumerating the ways to rule a claim.
use Rattle.std.specs.Prelude.{ℕ, suc, ◌+◌, ◌-◌, Bool, true, cond, not, ◌&&◌, leb, List, [], ◌∷◌, ◌++◌, length, ◌==◌, nat_le, nat_lt}
use Rattle.mtl.specs.Rows.{Row, row_at, time_at, stands}
use Rattle.mtl.specs.Lines.{Line, mark, neg, and, or, previous, next, since, until, Rules, line_at}
use Rattle.mtl.specs.Windows.{inside, up_to, past}
use Rattle.mtl.specs.Ranges.{run, range, keep}
use Rattle.mtl.specs.Claims.{Claim, Ruling, held, broken, Held, Broken, each, same_ruling}

-- the lines and rulings of a rule's children: fixed; one and then any number of another; any number
pub data Shape : Type 0 where
  exactly : List Claim → Shape
  first_then : Claim → Claim → Shape
  any_of : Claim → Shape

-- a rule at a line and a row: its ruling, and from j its children and whether its condition is met
pub record Form : Type 0 where
  pub number : ℕ
  pub ruling : Ruling
  pub shape : Shape
  pub first : ℕ
  pub count : ℕ
  pub kids : ℕ → List Claim
  pub meets : ℕ → Bool

abbrev pub form : ℕ → Ruling → Shape → ℕ → ℕ → (ℕ → List Claim) → (ℕ → Bool) → Form
form n r s a z k m = record { number = n; ruling = r; shape = s; first = a; count = z; kids = k; meets = m }

abbrev pub fixed : ℕ → Ruling → List Claim → Bool → Form
fixed n r ks b = form n r (exactly ks) 0 1 (λ _. ks) (λ _. b)

unfoldable pub forms : List Row → ℕ → Line → List Form
forms R i (mark m) = fixed 1 held [] (stands (row_at R i) m) ∷ fixed 2 broken [] (not (stands (row_at R i) m)) ∷ []
forms R i (neg l) = fixed 3 held (Broken l i ∷ []) true ∷ fixed 4 broken (Held l i ∷ []) true ∷ []
forms R i (and l r) =
    fixed 5 held (Held l i ∷ Held r i ∷ []) true ∷ fixed 6 broken (Broken l i ∷ []) true ∷ fixed 7 broken (Broken r i ∷ []) true ∷ []
forms R i (or l r) =
    fixed 8 held (Held l i ∷ []) true ∷ fixed 9 held (Held r i ∷ []) true ∷ fixed 10 broken (Broken l i ∷ Broken r i ∷ []) true ∷ []
forms R i (previous w l) =
    fixed 11 held (Held l (i - 1) ∷ []) (nat_lt 0 i && inside w (time_at R i - time_at R (i - 1))) ∷
    fixed 12 broken (Broken l (i - 1) ∷ []) (nat_lt 0 i) ∷
    fixed 13 broken [] (nat_lt 0 i && nat_lt (time_at R i - time_at R (i - 1)) w.from) ∷
    fixed 14 broken [] (nat_lt 0 i && past w.to (time_at R i - time_at R (i - 1))) ∷
    fixed 15 broken [] (i == 0) ∷ []
forms R i (next w l) =
    fixed 16 held (Held l (i + 1) ∷ []) (nat_lt (i + 1) (length R) && inside w (time_at R (i + 1) - time_at R i)) ∷
    fixed 17 broken (Broken l (i + 1) ∷ []) true ∷
    fixed 18 broken [] (nat_lt (i + 1) (length R) && nat_lt (time_at R (i + 1) - time_at R i) w.from) ∷
    fixed 19 broken [] (nat_lt (i + 1) (length R) && past w.to (time_at R (i + 1) - time_at R i)) ∷ []
forms R i (since w l r) =
    form 20 held (first_then (Held r i) (Held l i)) 0 (suc i) (λ j. Held r j ∷ each held l (range (j + 1) i))
    (λ j. nat_le j i && inside w (time_at R i - time_at R j)) ∷
    form 21 broken (first_then (Broken l i) (Broken r i)) 1 i
    (λ j. Broken l j ∷ each broken r (keep (λ k. leb w.from (time_at R i - time_at R k)) (range j i)))
    (λ j. (nat_le 1 j && nat_le j i) && (up_to w.to (time_at R i - time_at R (j - 1)) && nat_le w.from (time_at R i - time_at R 0))) ∷
    form 22 broken (any_of (Broken r i)) 0 1 (λ _. each broken r (keep (λ k. inside w (time_at R i - time_at R k)) (range 0 i)))
    (λ _. leb w.from (time_at R i - time_at R 0)) ∷
    fixed 23 broken [] (nat_lt (time_at R i - time_at R 0) w.from) ∷ []
forms R i (until w l r) =
    form 24 held (first_then (Held r i) (Held l i)) i (length R - i) (λ j. Held r j ∷ each held l (run i (j - i)))
    (λ j. (nat_le i j && nat_lt j (length R)) && inside w (time_at R j - time_at R i)) ∷
    form 25 broken (first_then (Broken l i) (Broken r i)) i (length R - i)
    (λ j. Broken l j ∷ each broken r (keep (λ k. leb w.from (time_at R k - time_at R i)) (range i j)))
    (λ j. (nat_le i j && nat_lt j (length R)) && up_to w.to (time_at R j - time_at R i)) ∷
    form 26 broken (any_of (Broken r i)) 0 1 (λ _. each broken r (keep (λ k. inside w (time_at R k - time_at R i)) (run i (length R - i))))
    (λ _. past w.to (time_at R (length R - 1) - time_at R i)) ∷ []

-- one way to rule: a rule and the children that it asks for
pub record Step : Type 0 where
  pub rule : ℕ
  pub kids : List Claim

abbrev pub by : ℕ → List Claim → Step
by rule kids = record { rule = rule; kids = kids }

unfoldable pub guard : Bool → List Step → List Step
guard b xs = cond b xs []

unfoldable pub for_each : (ℕ → List Step) → List ℕ → List Step
for_each f [] = []
for_each f (k ∷ ks) = f k ++ for_each f ks

-- the ways to rule a claim, read off the table of forms: by rule, then by j
abbrev pub ways_of : Form → List Step
ways_of f = for_each (λ j. guard (f.meets j) (by f.number (f.kids j) ∷ [])) (run f.first f.count)

unfoldable pub ways_in : Ruling → List Form → List Step
ways_in r [] = []
ways_in r (f ∷ fs) = guard (same_ruling f.ruling r) (ways_of f) ++ ways_in r fs

abbrev pub steps : Rules → List Row → Claim → List Step
steps T R c = guard (nat_lt c.line (length T)) (guard (nat_lt c.row (length R)) (ways_in c.ruling (forms R c.row (line_at T c.line))))
