-- Running sums of cells, and the least of ways in any order of passing.
use Rattle.std.proofs.Common.{◌≡◌, ℕ, zero, suc, ◌+◌, ◌-◌, ◌<◌, ◌≤◌, min, Bool, true, false, cond, not, T as Yes, leb, List, [], ◌∷◌, ◌++◌, sym, refl, ap, ◌∙◌, ap₂, arith, leb→le}
use Rattle.std.proofs.lemmas.List.{map-append, append-nil}
use lib.Dec.{nleb→lt}
use Rattle.mtl.specs.Cells.{sum_cells, add_cell}
use Rattle.mtl.specs.Claims.{each}
use Rattle.mtl.specs.Forms.{Form}
use Rattle.mtl.specs.Ranges.{run, keep}
use Rattle.mtl.specs.declared.ruling.Claim.{Claim}
use Rattle.mtl.specs.declared.ruling.Ruling.{Ruling}
use Rattle.writer.specs.Choice.{Best, none, merge, choice, offer, add_if, way_by, of_ways}

pub add_swap : (a b c : ℕ) → add_cell (add_cell a b) c ≡ add_cell (add_cell a c) b
add_swap zero b c = refl
add_swap (suc a) zero zero = refl
add_swap (suc a) zero (suc c) = go (min (suc a + suc c) 4097)
  where
    go : (x : ℕ) → 0 ≡ add_cell x 0
    go zero = refl
    go (suc x) = refl
add_swap (suc a) (suc b) zero = go (min (suc a + suc b) 4097)
  where
    go : (x : ℕ) → add_cell x 0 ≡ 0
    go zero = refl
    go (suc x) = refl
add_swap (suc a) (suc b) (suc c) = go (min (suc a + suc b) 4097) (min (suc a + suc c) 4097) refl refl
  where
    go : (x y : ℕ) → x ≡ min (suc a + suc b) 4097 → y ≡ min (suc a + suc c) 4097 → add_cell x (suc c) ≡ add_cell y (suc b)
    go zero y p q = absurd (omega arith)
    go (suc x) zero p q = absurd (omega arith)
    go (suc x) (suc y) p q = omega arith

-- a child more, wherever it stands, adds its cell to the sum
pub sum_front : (g : Claim → ℕ) (a b : ℕ) (cs : List Claim) → sum_cells g (add_cell a b) cs ≡ add_cell (sum_cells g a cs) b
unfolding sum_cells
sum_front g a b [] = refl
sum_front g a b (c ∷ cs) = ap (λ x. sum_cells g x cs) (add_swap a b (g c)) ∙ sum_front g (add_cell a (g c)) b cs

pub sum_cons : (g : Claim → ℕ) (a : ℕ) (c : Claim) (cs : List Claim) → sum_cells g a (c ∷ cs) ≡ add_cell (sum_cells g a cs) (g c)
unfolding sum_cells
sum_cons g a c cs = sum_front g a (g c) cs

pub sum_snoc : (g : Claim → ℕ) (a : ℕ) (cs : List Claim) (c : Claim) → sum_cells g a (cs ++ (c ∷ [])) ≡ add_cell (sum_cells g a cs) (g c)
unfolding sum_cells
sum_snoc g a [] c = refl
sum_snoc g a (d ∷ cs) c = sum_snoc g (add_cell a (g d)) cs c

abbrev B : ℕ → ℕ → Best
B x p = record { size = x; code = p }

assoc : (x p y q z r : ℕ) → merge (merge (B x p) (B y q)) (B z r) ≡ merge (B x p) (merge (B y q) (B z r))
assoc zero p y q z r = refl
assoc (suc x) p zero q z r = refl
assoc (suc x) p (suc y) q zero r = go (leb (suc x) (suc y))
  where
    go : (s : Bool) → merge (cond s (B (suc x) p) (B (suc y) q)) (B 0 r) ≡ cond s (B (suc x) p) (B (suc y) q)
    go true = refl
    go false = refl
assoc (suc x) p (suc y) q (suc z) r =
    go (leb (suc x) (suc y)) (leb (suc y) (suc z)) (leb (suc x) (suc z)) refl refl refl (leb→le _ _) (leb→le _ _) (leb→le _ _) (nleb→lt _ _) (nleb→lt _ _)
    (nleb→lt _ _)
  where
    go : (s t u : Bool) → leb (suc x) (suc y) ≡ s → leb (suc y) (suc z) ≡ t → leb (suc x) (suc z) ≡ u →
        (Yes s → suc x ≤ suc y) → (Yes t → suc y ≤ suc z) → (Yes u → suc x ≤ suc z) →
        (Yes (not s) → suc y < suc x) → (Yes (not t) → suc z < suc y) → (Yes (not u) → suc z < suc x) →
        merge (cond s (B (suc x) p) (B (suc y) q)) (B (suc z) r) ≡ merge (B (suc x) p) (cond t (B (suc y) q) (B (suc z) r))
    go true true true es et eu hs ht hu ks kt ku = ap (λ b. cond b (B (suc x) p) (B (suc z) r)) eu ∙ sym (ap (λ b. cond b (B (suc x) p) (B (suc y) q)) es)
    go true true false es et eu hs ht hu ks kt ku = let a = hs tt in let b = ht tt in let c = ku tt in absurd (omega arith)
    go true false u es et eu hs ht hu ks kt ku = refl
    go false true u es et eu hs ht hu ks kt ku = ap (λ b. cond b (B (suc y) q) (B (suc z) r)) et ∙ sym (ap (λ b. cond b (B (suc x) p) (B (suc y) q)) es)
    go false false true es et eu hs ht hu ks kt ku = let a = ks tt in let b = kt tt in let c = hu tt in absurd (omega arith)
    go false false false es et eu hs ht hu ks kt ku = ap (λ b. cond b (B (suc y) q) (B (suc z) r)) et ∙ sym (ap (λ b. cond b (B (suc x) p) (B (suc z) r)) eu)

pub merge_assoc : (a b c : Best) → merge (merge a b) c ≡ merge a (merge b c)
merge_assoc a b c = assoc a.size a.code b.size b.code c.size c.code

-- a best that is none or has a size: nothing merged after it changes it
choice_tight : (n p : ℕ) → merge (choice n p) none ≡ choice n p
choice_tight zero p = refl
choice_tight (suc n) p = refl

pub offer_tight : (b : Bool) (n p : ℕ) → merge (offer b n p) none ≡ offer b n p
offer_tight true n p = choice_tight n p
offer_tight false n p = refl

pub ways_tight : (g : Claim → ℕ) (f : Form) (js : List ℕ) → merge (of_ways g f js) none ≡ of_ways g f js
unfolding of_ways
ways_tight g f [] = refl
ways_tight g f (j ∷ js) = merge_assoc (way_by g f j) (of_ways g f js) none ∙ ap (merge (way_by g f j)) (ways_tight g f js)

pub ways_append : (g : Claim → ℕ) (f : Form) (xs ys : List ℕ) → of_ways g f (xs ++ ys) ≡ merge (of_ways g f xs) (of_ways g f ys)
unfolding of_ways
ways_append g f [] ys = refl
ways_append g f (x ∷ xs) ys = ap (merge (way_by g f x)) (ways_append g f xs ys) ∙ sym (merge_assoc (way_by g f x) (of_ways g f xs) (of_ways g f ys))

-- one row more, before and after
pub run_front : (j n : ℕ) → j < n → run j (n - j) ≡ j ∷ run (suc j) (n - suc j)
unfolding run
run_front j n h = let e : n - j ≡ suc (n - suc j) = omega arith in ap (run j) e

pub run_back : (a n : ℕ) → run a (suc n) ≡ run a n ++ ((a + n) ∷ [])
unfolding run
run_back a zero = let e : a ≡ a + 0 = omega arith in ap (λ x. x ∷ []) e
run_back a (suc n) = let e : suc a + n ≡ a + suc n = omega arith in ap (λ xs. a ∷ xs) (run_back (suc a) n ∙ ap (λ x. run (suc a) n ++ (x ∷ [])) e)

pub ways_front : (g : Claim → ℕ) (f : Form) (j n : ℕ) → j < n → of_ways g f (run j (n - j)) ≡ merge (way_by g f j) (of_ways g f (run (suc j) (n - suc j)))
unfolding of_ways
ways_front g f j n h = ap (of_ways g f) (run_front j n h)

pub ways_back : (g : Claim → ℕ) (f : Form) (a j : ℕ) → a ≤ j → of_ways g f (run a (suc j - a)) ≡ merge (of_ways g f (run a (j - a))) (way_by g f j)
unfolding of_ways
ways_back g f a j h =
    let e : suc j - a ≡ suc (j - a) = omega arith in
    let k : a + (j - a) ≡ j = omega arith in
    ap (λ x. of_ways g f (run a x)) e ∙ ap (of_ways g f) (run_back a (j - a)) ∙ ways_append g f (run a (j - a)) ((a + (j - a)) ∷ []) ∙
    ap (λ x. merge (of_ways g f (run a (j - a))) x) (offer_tight (f.meets (a + (j - a))) _ _ ∙ ap (way_by g f) k)

abbrev pub Of : Ruling → ℕ → ℕ → Claim
Of r l k = record { line = l; row = k; ruling = r }

-- a pass downwards: the way by j is offered before those by later rows
pub down : (g : Claim → ℕ) (f : Form) (j n end : ℕ) (best w : Best) → n ≡ suc j → j < end → best ≡ of_ways g f (run n (end - n)) → w ≡ way_by g f j →
    merge w best ≡ of_ways g f (run j (end - j))
down g f j n end best w e h b k = ap₂ merge k (b ∙ ap (λ x. of_ways g f (run x (end - x))) e) ∙ sym (ways_front g f j end h)

-- a pass upwards: the way by j is offered after those by earlier rows
pub up : (g : Claim → ℕ) (f : Form) (a j n : ℕ) (best w : Best) → n ≡ suc j → a ≤ j → best ≡ of_ways g f (run a (j - a)) → w ≡ way_by g f j →
    merge best w ≡ of_ways g f (run a (n - a))
up g f a j n best w e h b k = ap₂ merge b k ∙ sym (ways_back g f a j h) ∙ ap (λ x. of_ways g f (run a (x - a))) (sym e)

pub keep_back : (p : ℕ → Bool) (xs : List ℕ) (x : ℕ) → keep p (xs ++ (x ∷ [])) ≡ keep p xs ++ cond (p x) (x ∷ []) []
unfolding keep
keep_back p [] x = refl
keep_back p (y ∷ xs) x = go (p y) (keep_back p xs x)
  where
    go : (b : Bool) → keep p (xs ++ (x ∷ [])) ≡ keep p xs ++ cond (p x) (x ∷ []) [] →
        cond b (y ∷ keep p (xs ++ (x ∷ []))) (keep p (xs ++ (x ∷ []))) ≡ cond b (y ∷ keep p xs) (keep p xs) ++ cond (p x) (x ∷ []) []
    go true e = ap (λ zs. y ∷ zs) e
    go false e = e

-- the running sum: one row more among the children, if it is one of them
pub sum_down : (g : Claim → ℕ) (r : Ruling) (l : ℕ) (p : ℕ → Bool) (j n end s : ℕ) → n ≡ suc j → j < end →
    s ≡ sum_cells g 1 (each r l (keep p (run n (end - n)))) → add_if (p j) s (g (Of r l j)) ≡ sum_cells g 1 (each r l (keep p (run j (end - j))))
unfolding keep
sum_down g r l p j n end s e h k =
    ap (λ x. add_if (p j) x (g (Of r l j))) (k ∙ ap (λ x. sum_cells g 1 (each r l (keep p (run x (end - x))))) e) ∙ go (p j) ∙
    ap (λ xs. sum_cells g 1 (each r l (keep p xs))) (sym (run_front j end h))
  where
    go : (b : Bool) → add_if b (sum_cells g 1 (each r l (keep p (run (suc j) (end - suc j))))) (g (Of r l j)) ≡
        sum_cells g 1 (each r l (cond b (j ∷ keep p (run (suc j) (end - suc j))) (keep p (run (suc j) (end - suc j)))))
    go true = sym (sum_cons g 1 (Of r l j) _)
    go false = refl

pub sum_up : (g : Claim → ℕ) (r : Ruling) (l : ℕ) (p : ℕ → Bool) (a j n s : ℕ) → n ≡ suc j → a ≤ j →
    s ≡ sum_cells g 1 (each r l (keep p (run a (j - a)))) → add_if (p j) s (g (Of r l j)) ≡ sum_cells g 1 (each r l (keep p (run a (n - a))))
sum_up g r l p a j n s e h k =
    let q : n - a ≡ suc (j - a) = omega arith in
    let m : a + (j - a) ≡ j = omega arith in
    ap (λ x. add_if (p j) x (g (Of r l j))) k ∙ go (p j) ∙ ap (sum_cells g 1) (sym (map-append (Of r l) (keep p (run a (j - a))) (cond (p j) (j ∷ []) []))) ∙
    ap (λ xs. sum_cells g 1 (each r l xs)) (sym (keep_back p (run a (j - a)) j)) ∙
    ap (λ xs. sum_cells g 1 (each r l (keep p xs))) (ap (λ x. run a (j - a) ++ (x ∷ [])) (sym m) ∙ sym (run_back a (j - a)) ∙ ap (run a) (sym q))
  where
    ks : List Claim
    ks = each r l (keep p (run a (j - a)))

    go : (b : Bool) → add_if b (sum_cells g 1 ks) (g (Of r l j)) ≡ sum_cells g 1 (ks ++ each r l (cond b (j ∷ []) []))
    go true = sym (sum_snoc g 1 ks (Of r l j))
    go false = ap (sum_cells g 1) (sym (append-nil ks))

pub keep_all : (xs : List ℕ) → keep (λ _. true) xs ≡ xs
unfolding keep
keep_all [] = refl
keep_all (x ∷ xs) = ap (λ zs. x ∷ zs) (keep_all xs)

pub all_down : (g : Claim → ℕ) (r : Ruling) (l : ℕ) (j n end s : ℕ) → n ≡ suc j → j < end →
    s ≡ sum_cells g 1 (each r l (run n (end - n))) → add_cell s (g (Of r l j)) ≡ sum_cells g 1 (each r l (run j (end - j)))
all_down g r l j n end s e h k =
    sum_down g r l (λ _. true) j n end s e h (k ∙ ap (λ xs. sum_cells g 1 (each r l xs)) (sym (keep_all (run n (end - n))))) ∙
    ap (λ xs. sum_cells g 1 (each r l xs)) (keep_all (run j (end - j)))

pub all_up : (g : Claim → ℕ) (r : Ruling) (l : ℕ) (a j n s : ℕ) → n ≡ suc j → a ≤ j →
    s ≡ sum_cells g 1 (each r l (run a (j - a))) → add_cell s (g (Of r l j)) ≡ sum_cells g 1 (each r l (run a (n - a)))
all_up g r l a j n s e h k =
    sum_up g r l (λ _. true) a j n s e h (k ∙ ap (λ xs. sum_cells g 1 (each r l xs)) (sym (keep_all (run a (j - a))))) ∙
    ap (λ xs. sum_cells g 1 (each r l xs)) (keep_all (run a (n - a)))

-- an empty run
pub run_none : (a n : ℕ) → n ≤ a → run a (n - a) ≡ []
unfolding run
run_none a n h = let e : n - a ≡ 0 = omega arith in ap (run a) e
