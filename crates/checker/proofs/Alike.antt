-- The children's lines and rows as the code walks them, against those of the rules' table.
use Rattle.std.proofs.Common.{◌≡◌, ℕ, zero, suc, ◌+◌, ◌-◌, Bool, true, false, cond, ◌&&◌, eqb, leb, List, [], ◌∷◌, filter, length, sym, refl, ap, ◌∙◌, ap₂, add-one, arith}
use Rattle.std.specs.List.{range_with_len}
use Rattle.std.proofs.Math.Bool.{and-true}
use Rattle.std.proofs.lemmas.Bool.{false≢true, eqb-true, eq-eqb, le-leb, and_parts}
use Rattle.mtl.specs.declared.row.Row.{Row}
use Rattle.mtl.specs.declared.line.Window.{Window}
use Rattle.mtl.specs.declared.ruling.Claim.{Claim}
use Rattle.mtl.specs.declared.ruling.Ruling.{Ruling}
use Rattle.mtl.specs.Claims.{claim, each}
use Rattle.mtl.specs.Checking.{alike, all_alike, each_alike, same_rows}
use Rattle.mtl.specs.Ranges.{run, range, keep}
use Rattle.checker.specs.declared.view.Side.{Side}
use Rattle.checker.specs.Parts.{between}
use Rattle.mtl.specs.Windows.{inside, wide}
use Rattle.checker.specs.Children.{is_of, all_of, first_then_of, all_at, rows_are, chosen}

-- lines and rulings

pub all_alike_lem : (n i : ℕ) (r : Ruling) (cs : List Claim) → all_alike (claim n i r) cs ≡ all_of n r cs
unfolding all_alike
all_alike_lem n i r [] = refl
all_alike_lem n i r (c ∷ cs) = ap (λ t. is_of n r c && t) (all_alike_lem n i r cs)

pub none_alike : (cs : List Claim) → eqb 0 (length cs) ≡ true → each_alike [] cs ≡ true
unfolding each_alike
none_alike [] h = refl
none_alike (c ∷ cs) h = absurd (omega (arith, eqb-true 0 (length (c ∷ cs)) h))

pub one_alike : (n i : ℕ) (r : Ruling) (cs : List Claim) → eqb 1 (length cs) ≡ true → each_alike (claim n i r ∷ []) cs ≡ all_of n r cs
unfolding each_alike
one_alike n i r [] h = absurd (omega (arith, eqb-true 1 0 h))
one_alike n i r (c ∷ []) h = refl
one_alike n i r (c ∷ d ∷ cs) h = absurd (omega (arith, eqb-true 1 (length (c ∷ d ∷ cs)) h))

pub two_alike : (a b i : ℕ) (r : Ruling) (cs : List Claim) → eqb 2 (length cs) ≡ true → each_alike (claim a i r ∷ claim b i r ∷ []) cs ≡ first_then_of a b r cs
unfolding each_alike
two_alike a b i r [] h = absurd (omega (arith, eqb-true 2 0 h))
two_alike a b i r (c ∷ []) h = absurd (omega (arith, eqb-true 2 1 h))
two_alike a b i r (c ∷ d ∷ []) h = refl
two_alike a b i r (c ∷ d ∷ e ∷ cs) h = absurd (omega (arith, eqb-true 2 (length (c ∷ d ∷ e ∷ cs)) h))

-- rows, where the lines and rulings are as shown

pub no_rows : (cs : List Claim) → each_alike [] cs ≡ true → same_rows [] cs ≡ true
unfolding each_alike same_rows
no_rows [] h = refl
no_rows (c ∷ cs) h = absurd (false≢true h)

row_only : (a b : Bool) → b ≡ true → (a && b) ≡ a
row_only a b e = ap (λ t. a && t) e ∙ and-true a

pub one_row : (n i : ℕ) (r : Ruling) (cs : List Claim) → each_alike (claim n i r ∷ []) cs ≡ true → same_rows (claim n i r ∷ []) cs ≡ all_at i cs
unfolding each_alike same_rows
one_row n i r [] h = absurd (false≢true h)
one_row n i r (c ∷ []) h = ap (λ t. t && true) (row_only (eqb i c.row) (alike (claim n i r) c) (and_parts _ true h).0)
one_row n i r (c ∷ d ∷ cs) h = absurd (false≢true (and_parts (alike (claim n i r) c) false h).1)

pub two_rows : (a b i : ℕ) (r : Ruling) (cs : List Claim) → each_alike (claim a i r ∷ claim b i r ∷ []) cs ≡ true → same_rows (claim a i r ∷ claim b i r ∷ []) cs ≡ all_at i cs
unfolding each_alike same_rows
two_rows a b i r [] h = absurd (false≢true h)
two_rows a b i r (c ∷ []) h = absurd (false≢true (and_parts (alike (claim a i r) c) false h).1)
two_rows a b i r (c ∷ d ∷ []) h =
    let p = and_parts (alike (claim a i r) c) _ h in
    let q = and_parts (alike (claim b i r) d) true p.1 in
    ap₂ ◌&&◌ (row_only (eqb i c.row) _ p.0) (ap (λ t. t && true) (row_only (eqb i d.row) _ q.0))
two_rows a b i r (c ∷ d ∷ e ∷ cs) h =
    let p = and_parts (alike (claim a i r) c) (alike (claim b i r) d && false) h in
    absurd (false≢true (and_parts (alike (claim b i r) d) false p.1).1)

pub each_row : (n i : ℕ) (r : Ruling) (ks : List ℕ) (cs : List Claim) → all_alike (claim n i r) cs ≡ true → same_rows (each r n ks) cs ≡ rows_are ks cs
unfolding all_alike same_rows
each_row n i r [] [] h = refl
each_row n i r [] (c ∷ cs) h = refl
each_row n i r (k ∷ ks) [] h = refl
each_row n i r (k ∷ ks) (c ∷ cs) h =
    let p = and_parts (alike (claim n i r) c) _ h in
    ap₂ ◌&&◌ (row_only (eqb k c.row) _ p.0) (each_row n i r ks cs p.1)

-- the first child's own row is the one asked for
pub led_rows : (b : Claim) (n i : ℕ) (r : Ruling) (ks : List ℕ) (c : Claim) (cs : List Claim) →
    alike b c ≡ true → all_alike (claim n i r) cs ≡ true → same_rows (record { line = b.line; row = c.row; ruling = b.ruling } ∷ each r n ks) (c ∷ cs) ≡ rows_are ks cs
unfolding same_rows
led_rows b n i r ks c cs h g =
    ap₂ ◌&&◌ (row_only (eqb c.row c.row) _ h ∙ eq-eqb c.row c.row refl) (each_row n i r ks cs g)

-- which rows

pub picked : (p q : ℕ → Bool) (a n : ℕ) → ((k : ℕ) → p k ≡ q k) → keep p (run a n) ≡ filter q (range_with_len a n)
unfolding run keep
picked p q a zero h = refl
picked p q a (suc n) h =
    let rest : keep p (run (suc a) n) ≡ filter q (range_with_len (a + 1) n) = picked p q (suc a) n h ∙ ap (λ b. filter q (range_with_len b n)) (sym (add-one a)) in
    (λ i. cond (h a i) (a ∷ rest i) (rest i))

keep_all : (p : ℕ → Bool) (xs : List ℕ) → ((k : ℕ) → p k ≡ true) → xs ≡ keep p xs
unfolding keep
keep_all p [] h = refl
keep_all p (x ∷ xs) h = (λ i. cond (sym (h x) i) (x ∷ keep_all p xs h i) (keep_all p xs h i))

module _ (R : List Row) (side : Side) (i first end : ℕ) where
  pub inside_on : (w : Window) → keep (λ k. inside w (between R side i k)) (run first (end - first)) ≡ chosen R side w i first end
  inside_on w = picked _ _ first (end - first) (λ k. refl)

  pub any_time : run first (end - first) ≡ chosen R side (wide 0) i first end
  any_time = keep_all _ (run first (end - first)) (λ k. and-true (leb 0 (between R side i k)) ∙ le-leb 0 _ (omega arith)) ∙ inside_on (wide 0)

  pub from_on : (from : ℕ) → keep (λ k. leb from (between R side i k)) (run first (end - first)) ≡ chosen R side (wide from) i first end
  from_on from = picked _ _ first (end - first) (λ k. sym (and-true (leb from (between R side i k))))

-- a range ends before the row after its last
pub range_end : (a b : ℕ) → range a b ≡ run a (b + 1 - a)
unfolding range
range_end a b = let e : suc b - a ≡ b + 1 - a = omega arith in ap (run a) e
