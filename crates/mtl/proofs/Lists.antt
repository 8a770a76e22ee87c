-- Lists: what holds of each and of some element.
use Rattle.std.proofs.Common.{◌≡◌, ℕ, zero, suc, ◌+◌, ◌-◌, ◌<◌, ◌≤◌, Bool, true, false, cond, T, List, [], ◌∷◌, ◌++◌, map, length, get_or, subst, arith}
use native.Mathlib.Decide.{ℕ_discrete}
use Rattle.mtl.specs.Ranges.{run, range, keep}
use Rattle.mtl.specs.Lists.{AllOf, AnyOf, here, there}

-- each of a map
pub all_map : {A B : Type 0} (P : B → Type 0) (f : A → B) (xs : List A) → AllOf P (map f xs) → AllOf (λ x. P (f x)) xs
all_map P f [] h = tt
all_map P f (x ∷ xs) h = (h.0, all_map P f xs h.1)

pub map_all : {A B : Type 0} (P : B → Type 0) (f : A → B) (xs : List A) → AllOf (λ x. P (f x)) xs → AllOf P (map f xs)
map_all P f [] h = tt
map_all P f (x ∷ xs) h = (h.0, map_all P f xs h.1)

pub all_keep : (P : ℕ → Type 0) (p : ℕ → Bool) (xs : List ℕ) → AllOf P (keep p xs) → AllOf (λ x. T (p x) → P x) xs
unfolding keep
all_keep P p [] h = tt
all_keep P p (x ∷ xs) h = go (p x) (all_keep P p xs) h
  where
    go : (b : Bool) → (AllOf P (keep p xs) → AllOf (λ x. T (p x) → P x) xs) → AllOf P (cond b (x ∷ keep p xs) (keep p xs)) → (T b → P x) × AllOf (λ x. T (p x) → P x) xs
    go true f h = (λ _. h.0, f h.1)
    go false f h = (λ t. absurd t, f h)

pub keep_all : (P : ℕ → Type 0) (p : ℕ → Bool) (xs : List ℕ) → AllOf (λ x. T (p x) → P x) xs → AllOf P (keep p xs)
unfolding keep
keep_all P p [] h = tt
keep_all P p (x ∷ xs) h = go (p x) h.0 (keep_all P p xs h.1)
  where
    go : (b : Bool) → (T b → P x) → AllOf P (keep p xs) → AllOf P (cond b (x ∷ keep p xs) (keep p xs))
    go true f r = (f tt, r)
    go false f r = r

pub all_run : (P : ℕ → Type 0) (a n : ℕ) → AllOf P (run a n) → (k : ℕ) → a ≤ k → k < a + n → P k
unfolding run
all_run P a zero h k lo hi = absurd (omega arith)
all_run P a (suc n) h k lo hi = elim (ℕ_discrete a k) [ yes e ↦ subst P e h.0 | no ne ↦ all_run P (suc a) n h.1 k (omega arith) (omega arith) ]

pub run_all : (P : ℕ → Type 0) (a n : ℕ) → ((k : ℕ) → a ≤ k → k < a + n → P k) → AllOf P (run a n)
unfolding run
run_all P a zero h = tt
run_all P a (suc n) h = (h a (omega arith) (omega arith), run_all P (suc a) n (λ k lo hi. h k (omega arith) (omega arith)))

pub all_range : (P : ℕ → Type 0) (a b : ℕ) → AllOf P (range a b) → (k : ℕ) → a ≤ k → k ≤ b → P k
unfolding range
all_range P a b h k lo hi = all_run P a (suc b - a) h k lo (omega arith)

pub range_all : (P : ℕ → Type 0) (a b : ℕ) → ((k : ℕ) → a ≤ k → k ≤ b → P k) → AllOf P (range a b)
unfolding range
range_all P a b h = run_all P a (suc b - a) (λ k lo hi. h k lo (omega arith))

pub all_weaken : {A : Type 0} (P Q : A → Type 0) (xs : List A) → ((x : A) → P x → Q x) → AllOf P xs → AllOf Q xs
all_weaken P Q [] f h = tt
all_weaken P Q (x ∷ xs) f h = (f x h.0, all_weaken P Q xs f h.1)

pub any_left : {A : Type 0} (P : A → Type 0) (xs ys : List A) → AnyOf P xs → AnyOf P (xs ++ ys)
any_left P [] ys h = elim h [ ]
any_left P (x ∷ xs) ys (here h) = here h
any_left P (x ∷ xs) ys (there h) = there (any_left P xs ys h)

pub any_right : {A : Type 0} (P : A → Type 0) (xs ys : List A) → AnyOf P ys → AnyOf P (xs ++ ys)
any_right P [] ys h = h
any_right P (x ∷ xs) ys h = there (any_right P xs ys h)

pub all_both : {A : Type 0} (P : A → Type 0) (xs ys : List A) → AllOf P xs → AllOf P ys → AllOf P (xs ++ ys)
all_both P [] ys h g = g
all_both P (x ∷ xs) ys h g = (h.0, all_both P xs ys h.1 g)

pub all_zip : {A : Type 0} (P Q : A → Type 0) (xs : List A) → AllOf P xs → AllOf Q xs → AllOf (λ x. P x × Q x) xs
all_zip P Q [] h k = tt
all_zip P Q (x ∷ xs) h k = ((h.0, k.0), all_zip P Q xs h.1 k.1)

-- an element that is one of a list stands at some place, and what holds of each holds of it
pub any_place : {A : Type 0} (x : A) (xs : List A) → AnyOf (λ y. y ≡ x) xs → (k : ℕ) × (k < length xs) × (get_or xs k x ≡ x)
any_place x [] h = elim h [ ]
any_place x (y ∷ xs) (here e) = (zero, omega arith, e)
any_place x (y ∷ xs) (there h) = let p = any_place x xs h in let lt = p.1 in (suc p.0, omega arith, p.2)

pub all_place : {A : Type 0} (P : A → Type 0) (x : A) (xs : List A) → AllOf P xs → (k : ℕ) → k < length xs → P (get_or xs k x)
all_place P x [] h k lt = absurd (omega arith)
all_place P x (y ∷ xs) h zero lt = h.0
all_place P x (y ∷ xs) h (suc k) lt = all_place P x xs h.1 k (omega arith)
