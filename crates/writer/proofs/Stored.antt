-- A table of which a front is filled.
use Rattle.std.proofs.Common.{◌≡◌, ℕ, zero, suc, ◌+◌, ◌-◌, ◌*◌, ◌/◌, ◌%◌, ◌<◌, ◌≤◌, cond, eqb, List, [], ◌∷◌, ◌++◌, map, length, get_or, take, drop, set, replicate, sym, refl, ap, ◌∙◌, ap₂, append_assoc, arith, drop-cons, drop-drop}
use lib.ListN.{get_or-append}
use lib.Seq.{set_at, drop-append-add, take-append-add, take-append_seam}
use Rattle.std.proofs.lemmas.List.{map-append, drop-take}
use Rattle.mtl.specs.Buffers.{claim_at}
use Rattle.mtl.specs.Claims.{claim}
use Rattle.mtl.specs.declared.ruling.Claim.{Claim}
use Rattle.mtl.specs.Ranges.{run}
use Rattle.mtl.specs.declared.ruling.Ruling.TheVariants.{Held as held, Broken as broken}
use Rattle.writer.specs.Choice.{place}
use Rattle.writer.specs.Tables.{filled}
use Rattle.writer.proofs.Adding.{run_back}

pub length_run : {A : Type 0} (f : ℕ → A) (a n : ℕ) → length (map f (run a n)) ≡ n
unfolding run
length_run f a zero = refl
length_run f a (suc n) = ap suc (length_run f (suc a) n)

pub get_run : {A : Type 0} (f : ℕ → A) (d : A) (a n k : ℕ) → k < n → get_or (map f (run a n)) k d ≡ f (a + k)
unfolding run
get_run f d a zero k h = absurd (omega arith)
get_run f d a (suc n) zero h = let e : a ≡ a + 0 = omega arith in ap f e
get_run f d a (suc n) (suc k) h = let e : suc a + k ≡ a + suc k = omega arith in get_run f d (suc a) n k (omega arith) ∙ ap f e

pub filled_none : (f : ℕ → ℕ) (old : List ℕ) → old ≡ filled f 0 old
unfolding filled run
filled_none f old = refl

pub filled_get : (f : ℕ → ℕ) (n k : ℕ) (old : List ℕ) → k < n → get_or (filled f n old) k 0 ≡ f k
unfolding filled
filled_get f n k old h =
    let e : k < length (map f (run 0 n)) = omega (arith, length_run f 0 n) in
    let z : 0 + k ≡ k = omega arith in
    get_or-append (map f (run 0 n)) (drop n old) 0 k e ∙ get_run f 0 0 n k h ∙ ap f z

drop_over : (f : ℕ → ℕ) (m n : ℕ) (old : List ℕ) → m ≤ n → drop n (filled f m old) ≡ drop n old
unfolding filled
drop_over f m n old h =
    let e : n ≡ length (map f (run 0 m)) + (n - m) = omega (arith, length_run f 0 m) in
    let d : m + (n - m) ≡ n = omega arith in
    ap (λ k. drop k (map f (run 0 m) ++ drop m old)) e ∙ drop-append-add (map f (run 0 m)) (drop m old) (n - m) ∙ drop-drop (n - m) m old ∙ ap (λ k. drop k old) d

pub filled_over : (f : ℕ → ℕ) (m n : ℕ) (old : List ℕ) → m ≤ n → filled f n (filled f m old) ≡ filled f n old
unfolding filled
filled_over f m n old h = ap (λ xs. map f (run 0 n) ++ xs) (drop_over f m n old h)

pub filled_set : (f : ℕ → ℕ) (n v : ℕ) (old : List ℕ) → n < length old → v ≡ f n → set (filled f n old) n v ≡ filled f (suc n) old
unfolding filled
filled_set f n v old h e =
    let z : 0 + n ≡ n = omega arith in
    ap (λ xs. set (map f (run 0 n) ++ xs) n v) (drop-cons old n 0 h) ∙ set_at (map f (run 0 n)) (get_or old n 0) (drop (suc n) old) v n (length_run f 0 n) ∙
    ap (λ x. map f (run 0 n) ++ (x ∷ drop (suc n) old)) (e ∙ ap f (sym z)) ∙
    sym (append_assoc (map f (run 0 n)) (f (0 + n) ∷ []) (drop (suc n) old)) ∙
    ap (λ xs. xs ++ drop (suc n) old) (sym (map-append f (run 0 n) ((0 + n) ∷ [])) ∙ ap (map f) (sym (run_back 0 n)))

-- two cells more
pub filled_two : (f : ℕ → ℕ) (m n a b : ℕ) (s old : List ℕ) → s ≡ filled f m old → n ≡ suc (suc m) → suc m < length old → a ≡ f m → b ≡ f (suc m) →
    set (set s m a) (m + 1) b ≡ filled f n old
filled_two f m n a b s old h e l p q =
    let k : m + 1 ≡ suc m = omega arith in
    ap (λ x. set (set x m a) (m + 1) b) h ∙ ap (λ x. set x (m + 1) b) (filled_set f m a old (omega arith) p) ∙
    ap (λ x. set (filled f (suc m) old) x b) k ∙ filled_set f (suc m) b old l q ∙ ap (λ x. filled f x old) (sym e)

-- the claim whose cell stands at its place
pub claim_of : (c : Claim) → c.row < 128 → claim_at (place c) ≡ c
claim_of c h = elim c.ruling as (λ r. claim_at (place (claim c.line c.row r)) ≡ claim c.line c.row r) [
  | held ↦
      let p : (256 * c.line + (2 * c.row + 0)) / 256 ≡ c.line = omega arith in
      let q : ((256 * c.line + (2 * c.row + 0)) % 256) / 2 ≡ c.row = omega arith in
      let z : (256 * c.line + (2 * c.row + 0)) % 2 ≡ 0 = omega arith in
      λ k. record { line = p k; row = q k; ruling = cond (eqb (z k) 0) held broken }
  | broken ↦
      let p : (256 * c.line + (2 * c.row + 1)) / 256 ≡ c.line = omega arith in
      let q : ((256 * c.line + (2 * c.row + 1)) % 256) / 2 ≡ c.row = omega arith in
      let z : (256 * c.line + (2 * c.row + 1)) % 2 ≡ 1 = omega arith in
      λ k. record { line = p k; row = q k; ruling = cond (eqb (z k) 0) held broken }
]

-- a filled front stays one
pub filled_on : (f : ℕ → ℕ) (n m : ℕ) (s old : List ℕ) → m ≡ n → s ≡ filled f n old → s ≡ filled f m s
filled_on f n m s old e h = h ∙ sym (filled_over f n n old (omega arith)) ∙ ap₂ (filled f) (sym e) (sym h)

run_both : (a m n : ℕ) → run a (m + n) ≡ run a m ++ run (a + m) n
unfolding run
run_both a zero n = let e : a ≡ a + 0 = omega arith in let z : 0 + n ≡ n = omega arith in ap₂ run e z
run_both a (suc m) n =
    let e : suc m + n ≡ suc (m + n) = omega arith in
    let z : suc a + m ≡ a + suc m = omega arith in
    ap (run a) e ∙ ap (λ xs. a ∷ xs) (run_both (suc a) m n ∙ ap (λ x. run (suc a) m ++ run x n) z)

zero_run : (f : ℕ → ℕ) (a n : ℕ) → ((k : ℕ) → a ≤ k → k < a + n → f k ≡ 0) → replicate n 0 ≡ map f (run a n)
unfolding run
zero_run f a zero h = refl
zero_run f a (suc n) h = ap₂ (λ x xs. x ∷ xs) (sym (h a (omega arith) (omega arith))) (zero_run f (suc a) n (λ k p q. h k (omega arith) (omega arith)))

-- cells in which 0 belongs
pub filled_blank : (f : ℕ → ℕ) (m n : ℕ) (s old : List ℕ) → s ≡ filled f m old → m ≤ n → ((k : ℕ) → m ≤ k → k < n → f k ≡ 0) →
    take m s ++ (replicate (n - m) 0 ++ drop n s) ≡ filled f n old
unfolding filled
filled_blank f m n s old h l z =
    let d : m + (n - m) ≡ n = omega arith in
    let o : 0 + m ≡ m = omega arith in
    let xs = map f (run 0 m) in
    let front : take m s ≡ xs = ap (take m) h ∙ ap (λ k. take k (xs ++ drop m old)) (sym (length_run f 0 m)) ∙ take-append_seam xs (drop m old) in
    let blank : replicate (n - m) 0 ≡ map f (run m (n - m)) = zero_run f m (n - m) (λ k p q. z k p (omega arith)) in
    let back : drop n s ≡ drop n old = ap (drop n) h ∙ drop_over f m n old l in
    ap (λ t. t ++ (replicate (n - m) 0 ++ drop n s)) front ∙ ap₂ (λ t u. xs ++ (t ++ u)) blank back ∙
    sym (append_assoc xs (map f (run m (n - m))) (drop n old)) ∙
    ap (λ t. t ++ drop n old) (sym (map-append f (run 0 m) (run m (n - m))) ∙ ap (λ k. map f (run 0 m ++ run k (n - m))) (sym o) ∙ ap (map f) (sym (run_both 0 m (n - m))) ∙ ap (λ k. map f (run 0 k)) d)

-- the front of a table that is filled within it
pub filled_take : (f : ℕ → ℕ) (m n : ℕ) (s old : List ℕ) → s ≡ filled f m old → m ≤ n → take n s ≡ filled f m (take n old)
unfolding filled
filled_take f m n s old h l =
    let e : n ≡ length (map f (run 0 m)) + (n - m) = omega (arith, length_run f 0 m) in
    let d : m + (n - m) ≡ n = omega arith in
    ap (take n) h ∙ ap (λ k. take k (map f (run 0 m) ++ drop m old)) e ∙ take-append-add (map f (run 0 m)) (drop m old) (n - m) ∙
    ap (λ t. map f (run 0 m) ++ t) (sym (drop-take m (n - m) old) ∙ ap (λ k. drop m (take k old)) d)
