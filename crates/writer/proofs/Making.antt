-- The children of a way, as it is made and as it is read.
use Rattle.std.proofs.Common.{◌≡◌, ℕ, zero, suc, ◌+◌, ◌-◌, ◌<◌, ◌≤◌, List, [], ◌∷◌, length, get_or, ◌++◌, sym, refl, ap, ap₂, ◌∙◌, arith, length-append}
use native.Mathlib.Decide.{dec_lt}
use Rattle.std.proofs.lemmas.List.{get_or_append_left, get_or-append_right}
use Rattle.mtl.specs.Claims.{claim, each}
use Rattle.mtl.specs.Ranges.{run}
use Rattle.mtl.specs.declared.ruling.Claim.{Claim}
use Rattle.mtl.specs.declared.ruling.Ruling.{Ruling}
use Rattle.writer.specs.Ways.{Run, Way, claims_of, kids_of, Makes}
use Rattle.writer.proofs.Stored.{length_run, get_run}

run_one : (a : ℕ) → run a (a + 1 - a) ≡ a ∷ []
unfolding run
run_one a = let e : a + 1 - a ≡ 1 = omega arith in ap (run a) e

pub none_of : (r : Ruling) (n : ℕ) → each r n (run 0 0) ≡ []
unfolding run
none_of r n = refl

pub one_of : (r : Ruling) (n i : ℕ) → each r n (run i (i + 1 - i)) ≡ claim n i r ∷ []
one_of r n i = ap (each r n) (run_one i)

-- a way by one claim, by two, or by one and others
pub alone : {w : Way} {n : ℕ} {f : Ruling → List Claim} {k : Ruling → Claim} → Makes w n f → ((q : Ruling) → f q ≡ k q ∷ []) →
    Makes w n (λ q. k q ∷ [])
alone m e = record { ruled = m.ruled; kids_are = λ q. m.kids_are q ∙ e q }

pub led : {w : Way} {n : ℕ} {f g : Ruling → List Claim} {k : Ruling → Claim} → Makes w n (λ q. f q ++ g q) →
    ((q : Ruling) → f q ≡ k q ∷ []) → Makes w n (λ q. k q ∷ g q)
led {w} {n} {f} {g} m e = record { ruled = m.ruled; kids_are = λ q. m.kids_are q ∙ ap (λ xs. xs ++ g q) (e q) }

pub both : {w : Way} {n : ℕ} {f g : Ruling → List Claim} {k l : Ruling → Claim} → Makes w n (λ q. f q ++ g q) →
    ((q : Ruling) → f q ≡ k q ∷ []) → ((q : Ruling) → g q ≡ l q ∷ []) → Makes w n (λ q. k q ∷ l q ∷ [])
both m e f = record { ruled = m.ruled; kids_are = λ q. m.kids_are q ∙ ap₂ ◌++◌ (e q) (f q) }

length_of : (r : Ruling) (x : Run) → length (claims_of r x) ≡ x.to - x.from
length_of r x = length_run (λ k. claim x.line k r) x.from (x.to - x.from)

pub length_kids : (r : Ruling) (w : Way) → length (kids_of r w) ≡ (w.first.to - w.first.from) + (w.rest.to - w.rest.from)
length_kids r w = omega (arith, length-append (claims_of r w.first) (claims_of r w.rest), length_of r w.first, length_of r w.rest)

kid_of : (r : Ruling) (x : Run) (k : ℕ) → k < x.to - x.from → get_or (claims_of r x) k (claim 0 0 r) ≡ claim x.line (x.from + k) r
kid_of r x k h = get_run (λ k. claim x.line k r) (claim 0 0 r) x.from (x.to - x.from) k h

pub kid_first : (r : Ruling) (w : Way) (k : ℕ) → k < w.first.to - w.first.from →
    get_or (kids_of r w) k (claim 0 0 r) ≡ claim w.first.line (w.first.from + k) r
kid_first r w k h =
    get_or_append_left (claims_of r w.first) (claims_of r w.rest) (claim 0 0 r) k (omega (arith, length_of r w.first)) ∙ kid_of r w.first k h

pub kid_rest : (r : Ruling) (w : Way) (a k : ℕ) → a ≡ w.first.to - w.first.from → a ≤ k → k < length (kids_of r w) →
    get_or (kids_of r w) k (claim 0 0 r) ≡ claim w.rest.line (w.rest.from + (k - a)) r
kid_rest r w a k e h l =
    get_or-append_right (claims_of r w.first) (claims_of r w.rest) a k (claim 0 0 r) (length_of r w.first ∙ sym e) h ∙
    kid_of r w.rest (k - a) (omega (arith, length_kids r w))

-- the runs of a way in turn, whatever stands past them, and how many children come before those of a run
abbrev pub run_at : Run → Way → ℕ → Run
run_at d w i = get_or (w.first ∷ w.rest ∷ []) i d

abbrev pub before : Way → ℕ → ℕ
before w zero = 0
before w (suc zero) = w.first.to - w.first.from
before w (suc (suc i)) = (w.first.to - w.first.from) + (w.rest.to - w.rest.from)

pub kid_at : (d : Run) (r : Ruling) (w : Way) (i j : ℕ) → i < 2 → (run_at d w i).from ≤ j → j < (run_at d w i).to →
    (before w i + (j - (run_at d w i).from) < length (kids_of r w)) ×
    (claim (run_at d w i).line j r ≡ get_or (kids_of r w) (before w i + (j - (run_at d w i).from)) (claim 0 0 r))
kid_at d r w zero j h lo hi =
    let z : w.first.from + (0 + (j - w.first.from)) ≡ j = omega arith in
    (omega (arith, length_kids r w), sym (kid_first r w (0 + (j - w.first.from)) (omega arith) ∙ ap (λ k. claim w.first.line k r) z))
kid_at d r w (suc zero) j h lo hi =
    let a = w.first.to - w.first.from in
    let m : a + (j - w.rest.from) < length (kids_of r w) = omega (arith, length_kids r w) in
    let z : w.rest.from + (a + (j - w.rest.from) - a) ≡ j = omega arith in
    (m, sym (kid_rest r w a (a + (j - w.rest.from)) refl (omega arith) m ∙ ap (λ k. claim w.rest.line k r) z))
kid_at d r w (suc (suc i)) j h lo hi = absurd (omega arith)

-- a run that has been gone through
run_through : (a b j : ℕ) → a ≤ j → b ≤ j → (a ≤ b → j ≤ b) → (b ≤ a → j ≡ a) → j - a ≡ b - a
run_through a b j lo hi to at = elim (dec_lt b a) [
  | yes k ↦ let z : j ≡ a = at (omega arith) in omega arith
  | no k ↦ let z : j ≤ b = to (omega arith) in omega arith
]

pub before_next : (d : Run) (w : Way) (i n j : ℕ) → n ≡ i + 1 → i < 2 → (run_at d w i).from ≤ j → (run_at d w i).to ≤ j → ((run_at d w i).from ≤ (run_at d w i).to → j ≤ (run_at d w i).to) → ((run_at d w i).to ≤ (run_at d w i).from → j ≡ (run_at d w i).from) →
    before w i + (j - (run_at d w i).from) ≡ before w n
before_next d w zero n j e h lo hi to at = let z : n ≡ 1 = omega arith in omega (arith, run_through w.first.from w.first.to j lo hi to at, ap (before w) z)
before_next d w (suc zero) n j e h lo hi to at = let z : n ≡ 2 = omega arith in omega (arith, run_through w.rest.from w.rest.to j lo hi to at, ap (before w) z)
before_next d w (suc (suc i)) n j e h lo hi to at = absurd (omega arith)

pub all_kids : (r : Ruling) (w : Way) (i : ℕ) → 2 ≤ i → length (kids_of r w) ≤ before w i
all_kids r w zero h = absurd (omega arith)
all_kids r w (suc zero) h = absurd (omega arith)
all_kids r w (suc (suc i)) h = omega (arith, length_kids r w)
