-- Times never fall, so the rows inside a window stand together: what lies past it adds nothing.
use Rattle.std.proofs.Common.{◌≡◌, ℕ, zero, suc, ◌+◌, ◌-◌, ◌*◌, ◌<◌, ◌≤◌, Bool, true, false, cond, ◌&&◌, T as Yes, leb, List, [], ◌∷◌, ◌++◌, Some, None, Option, sym, refl, ap, ◌∙◌, subst, ap₂, append-nil, arith, ltb→lt, leb→le}
use Rattle.mtl.specs.Cells.{sum_cells, add_cell}
use Rattle.mtl.specs.Claims.{each}
use Rattle.mtl.specs.Forms.{Form}
use Rattle.mtl.specs.Ranges.{run, keep}
use Rattle.mtl.specs.Windows.{inside, up_to, past}
use Rattle.mtl.specs.declared.line.Window.{Window}
use Rattle.mtl.specs.declared.ruling.Claim.{Claim}
use Rattle.mtl.specs.declared.ruling.Ruling.{Ruling}
use Rattle.writer.specs.Choice.{none, merge, offer, add_if, way_by, of_ways}
use Rattle.writer.proofs.Adding.{ways_front, ways_back, ways_tight, run_front, run_back, keep_back, keep_all, sum_down, sum_up, sum_cons, Of}
use Rattle.writer.proofs.Offers.{false_of}

pub past_not : (o : Option ℕ) (d : ℕ) → past o d ≡ true → up_to o d ≡ false
past_not None d p = sym p
past_not (Some b) d p = let z = ltb→lt b d (subst Yes (sym p) tt) in false_of _ (λ t. let y = leb→le d b t in omega arith)

pub second_false : (a b : Bool) → b ≡ false → a && b ≡ false
second_false true b e = e
second_false false b e = refl

pub first_false : (a b : Bool) → a ≡ false → a && b ≡ false
first_false a b e = ap (λ x. x && b) e

pub past_outside : (w : Window) (d : ℕ) → past w.to d ≡ true → inside w d ≡ false
past_outside w d p = second_false (leb w.from d) _ (past_not w.to d p)

-- up to a window's end, its start alone says what is inside
pub within : (w : Window) (d : ℕ) → up_to w.to d ≡ true → leb w.from d ≡ inside w d
within w d h = second_true (leb w.from d) (up_to w.to d) h
  where
    second_true : (a b : Bool) → b ≡ true → a ≡ a && b
    second_true true b e = sym e
    second_true false b e = refl

pub unmet : (g : Claim → ℕ) (f : Form) (j : ℕ) → f.meets j ≡ false → way_by g f j ≡ none
unmet g f j e = ap (λ b. offer b (sum_cells g 1 (f.kids j)) (256 * f.number + j)) e

pub idle_before : (g : Claim → ℕ) (f : Form) (d a n end : ℕ) → n ≡ a + d → n ≤ end → ((j : ℕ) → a ≤ j → j < n → way_by g f j ≡ none) →
    of_ways g f (run n (end - n)) ≡ of_ways g f (run a (end - a))
idle_before g f zero a n end e h q = let z : n ≡ a = omega arith in ap (λ x. of_ways g f (run x (end - x))) z
idle_before g f (suc d) a n end e h q =
    idle_before g f d (suc a) n end (omega arith) h (λ j lo hi. q j (omega arith) hi) ∙
    sym (ways_front g f a end (omega arith) ∙ ap (λ x. merge x (of_ways g f (run (suc a) (end - suc a)))) (q a (omega arith) (omega arith)))

pub rest_before : (g : Claim → ℕ) (f : Form) (d a n end : ℕ) → n ≡ a + d → n ≤ end → ((j : ℕ) → a ≤ j → j < n → f.meets j ≡ false) →
    of_ways g f (run n (end - n)) ≡ of_ways g f (run a (end - a))
rest_before g f d a n end e h q = idle_before g f d a n end e h (λ j lo hi. unmet g f j (q j lo hi))

add_none : (b : Bool) (x : ℕ) → add_if b 0 x ≡ 0
add_none true x = refl
add_none false x = refl

-- a sum that is none stays so
pub kept_none_before : (g : Claim → ℕ) (r : Ruling) (l : ℕ) (p : ℕ → Bool) (d m n end : ℕ) → n ≡ m + d → n ≤ end →
    sum_cells g 1 (each r l (keep p (run n (end - n)))) ≡ 0 → sum_cells g 1 (each r l (keep p (run m (end - m)))) ≡ 0
kept_none_before g r l p zero m n end e h z = let y : m ≡ n = omega arith in ap (λ x. sum_cells g 1 (each r l (keep p (run x (end - x))))) y ∙ z
kept_none_before g r l p (suc d) m n end e h z =
    sym (sum_down g r l p m (suc m) end _ refl (omega arith) refl) ∙ ap (λ x. add_if (p m) x (g (Of r l m))) (kept_none_before g r l p d (suc m) n end (omega arith) h z) ∙
    add_none (p m) (g (Of r l m))

pub kept_none_after : (g : Claim → ℕ) (r : Ruling) (l : ℕ) (p : ℕ → Bool) (a d n m : ℕ) → m ≡ n + d → a ≤ n →
    sum_cells g 1 (each r l (keep p (run a (n - a)))) ≡ 0 → sum_cells g 1 (each r l (keep p (run a (m - a)))) ≡ 0
kept_none_after g r l p a zero n m e h z = let y : m ≡ n = omega arith in ap (λ x. sum_cells g 1 (each r l (keep p (run a (x - a))))) y ∙ z
kept_none_after g r l p a (suc d) n m e h z =
    let y : m ≡ suc (n + d) = omega arith in
    ap (λ x. sum_cells g 1 (each r l (keep p (run a (x - a))))) y ∙ sym (sum_up g r l p a (n + d) (suc (n + d)) _ refl (omega arith) refl) ∙
    ap (λ x. add_if (p (n + d)) x (g (Of r l (n + d)))) (kept_none_after g r l p a d n (n + d) refl h z) ∙ add_none (p (n + d)) (g (Of r l (n + d)))

all_kept : (g : Claim → ℕ) (r : Ruling) (l : ℕ) (xs : List ℕ) → sum_cells g 1 (each r l (keep (λ _. true) xs)) ≡ sum_cells g 1 (each r l xs)
all_kept g r l xs = ap (λ ys. sum_cells g 1 (each r l ys)) (keep_all xs)

pub none_before : (g : Claim → ℕ) (r : Ruling) (l d m n end : ℕ) → n ≡ m + d → n ≤ end → sum_cells g 1 (each r l (run n (end - n))) ≡ 0 → sum_cells g 1 (each r l (run m (end - m))) ≡ 0
none_before g r l d m n end e h z =
    sym (all_kept g r l (run m (end - m))) ∙ kept_none_before g r l (λ _. true) d m n end e h (all_kept g r l (run n (end - n)) ∙ z)

pub none_after : (g : Claim → ℕ) (r : Ruling) (l a d n m : ℕ) → m ≡ n + d → a ≤ n → sum_cells g 1 (each r l (run a (n - a))) ≡ 0 → sum_cells g 1 (each r l (run a (m - a))) ≡ 0
none_after g r l a d n m e h z =
    sym (all_kept g r l (run a (m - a))) ∙ kept_none_after g r l (λ _. true) a d n m e h (all_kept g r l (run a (n - a)) ∙ z)

pub offer_none : (b : Bool) (code : ℕ) → offer b 0 code ≡ none
offer_none true code = refl
offer_none false code = refl

pub idle : (g : Claim → ℕ) (f : Form) (j : ℕ) (k : Claim) (ks : List Claim) → f.kids j ≡ k ∷ ks → sum_cells g 1 ks ≡ 0 → way_by g f j ≡ none
idle g f j k ks e z =
    ap (λ s. offer (f.meets j) s (256 * f.number + j)) (ap (sum_cells g 1) e ∙ sum_cons g 1 k ks ∙ ap (λ x. add_cell x (g k)) z) ∙
    offer_none (f.meets j) (256 * f.number + j)

pub idle_after : (g : Claim → ℕ) (f : Form) (a d n end : ℕ) → end ≡ n + d → a ≤ n → ((j : ℕ) → n ≤ j → j < end → way_by g f j ≡ none) →
    of_ways g f (run a (n - a)) ≡ of_ways g f (run a (end - a))
idle_after g f a zero n end e h q = let z : n ≡ end = omega arith in ap (λ x. of_ways g f (run a (x - a))) z
idle_after g f a (suc d) n end e h q =
    let z : suc (n + d) ≡ end = omega arith in
    idle_after g f a d n (n + d) refl h (λ j lo hi. q j lo (omega arith)) ∙
    sym (ways_back g f a (n + d) (omega arith) ∙ ap (merge (of_ways g f (run a (n + d - a)))) (q (n + d) (omega arith) (omega arith)) ∙ ways_tight g f (run a (n + d - a))) ∙
    ap (λ x. of_ways g f (run a (x - a))) z

pub rest_after : (g : Claim → ℕ) (f : Form) (a d n end : ℕ) → end ≡ n + d → a ≤ n → ((j : ℕ) → n ≤ j → j < end → f.meets j ≡ false) →
    of_ways g f (run a (n - a)) ≡ of_ways g f (run a (end - a))
rest_after g f a d n end e h q = idle_after g f a d n end e h (λ j lo hi. unmet g f j (q j lo hi))

-- two tests that say the same of these rows keep the same
pub keep_same : (p q : ℕ → Bool) (a n : ℕ) → ((k : ℕ) → a ≤ k → k < a + n → p k ≡ q k) → keep p (run a n) ≡ keep q (run a n)
unfolding keep run
keep_same p q a zero h = refl
keep_same p q a (suc n) h =
    ap₂ (λ b xs. cond b (a ∷ xs) xs) (h a (omega arith) (omega arith)) (keep_same p q (suc a) n (λ k lo hi. h k (omega arith) (omega arith)))

pub keep_before : (p : ℕ → Bool) (d a n end : ℕ) → n ≡ a + d → n ≤ end → ((j : ℕ) → j < n → p j ≡ false) → keep p (run n (end - n)) ≡ keep p (run a (end - a))
unfolding keep
keep_before p zero a n end e h q = let z : n ≡ a = omega arith in ap (λ x. keep p (run x (end - x))) z
keep_before p (suc d) a n end e h q =
    keep_before p d (suc a) n end (omega arith) h q ∙
    sym (ap (keep p) (run_front a end (omega arith)) ∙ ap (λ b. cond b (a ∷ keep p (run (suc a) (end - suc a))) (keep p (run (suc a) (end - suc a)))) (q a (omega arith)))

pub keep_after : (p : ℕ → Bool) (a d n end : ℕ) → end ≡ n + d → a ≤ n → ((j : ℕ) → n ≤ j → j < end → p j ≡ false) → keep p (run a (n - a)) ≡ keep p (run a (end - a))
keep_after p a zero n end e h q = let z : n ≡ end = omega arith in ap (λ x. keep p (run a (x - a))) z
keep_after p a (suc d) n end e h q =
    let z : suc (n + d - a) ≡ end - a = omega arith in
    let y : a + (n + d - a) ≡ n + d = omega arith in
    keep_after p a d n (n + d) refl h (λ j lo hi. q j lo (omega arith)) ∙
    sym (ap (keep p) (run_back a (n + d - a)) ∙ keep_back p (run a (n + d - a)) (a + (n + d - a)) ∙
    ap (λ b. keep p (run a (n + d - a)) ++ cond b ((a + (n + d - a)) ∷ []) []) (ap p y ∙ q (n + d) (omega arith) (omega arith)) ∙ append-nil (keep p (run a (n + d - a)))) ∙
    ap (λ x. keep p (run a x)) z
