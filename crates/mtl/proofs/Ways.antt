use Rattle.std.proofs.Common.{◌≡◌, ℕ, zero, suc, ◌+◌, ◌<◌, ◌≤◌, Bool, true, false, ◌&&◌, T as Yes, ltb, leb, ◌⊎◌, List, [], ◌∷◌, ◌++◌, length, sym, refl, ap, ◌∙◌, subst, ap₂, inl, inr, arith, ltb→lt, lt→ltb, leb→le}
use Rattle.mtl.specs.Claims.{Claim, Ruling, first_row, same_ruling}
use Rattle.mtl.specs.Follows.{Follows}
use Rattle.mtl.specs.Forms.{Shape, Step, by, guard, for_each, Form, form, forms, ways_of, ways_in, steps}
use Rattle.mtl.specs.Lines.{Line, mark, neg, and, or, previous, next, since, until, Rules, line_at}
use Rattle.mtl.specs.Ranges.{run}
use Rattle.mtl.specs.Rows.{Row}
use Rattle.mtl.proofs.Accept.{ruling_same, ruling_refl, Rises}
use Rattle.mtl.proofs.Checks.{Allows, allowed, Gives, formed}
use Rattle.mtl.proofs.Listed.{any_guard, any_each, any_only, all_guard, all_each, all_only}
use Rattle.mtl.specs.Lists.{AllOf, AnyOf, here, there}
use Rattle.mtl.proofs.Lists.{any_left, any_right, all_both, all_weaken, all_zip}
use Rattle.mtl.proofs.Tests.{fst_of, snd_of}

-- a step that stands before another in the list of steps
abbrev pub Before : Step → Step → Type 0
Before s t = (s.rule < t.rule) ⊎ ((s.rule ≡ t.rule) × (first_row s.kids < first_row t.kids))

pub data Sorted : List Step → Type 0 where
  nothing : Sorted []
  ahead : {s : Step} {ss : List Step} → AllOf (Before s) ss → Sorted ss → Sorted (s ∷ ss)

pub sorted_guard : (b : Bool) (xs : List Step) → Sorted xs → Sorted (guard b xs)
unfolding guard
sorted_guard true xs h = h
sorted_guard false xs h = nothing

pub sorted_both : (xs ys : List Step) → Sorted xs → Sorted ys → AllOf (λ x. AllOf (Before x) ys) xs → Sorted (xs ++ ys)
sorted_both [] ys h k a = k
sorted_both (x ∷ xs) ys (ahead h t) k a = ahead (all_both (Before x) xs ys h a.0) (sorted_both xs ys t k a.1)

one : (b : Bool) (s : Step) → Sorted (guard b (s ∷ []))
one b s = sorted_guard b (s ∷ []) (ahead tt nothing)

-- at each k one step or none, whose first child is at k
pub rows_each : (r : ℕ) (p : ℕ → Bool) (g : ℕ → List Claim) (a n : ℕ) → ((k : ℕ) → first_row (g k) ≡ k) →
    Sorted (for_each (λ k. guard (p k) (by r (g k) ∷ [])) (run a n))
unfolding for_each run
rows_each r p g a zero h = nothing
rows_each r p g a (suc n) h =
    sorted_both (guard (p a) (by r (g a) ∷ [])) _ (one (p a) _) (rows_each r p g (suc a) n h)
    (all_only _ (p a) _ (λ _. all_each (Before (by r (g a))) _ (suc a) n
    (λ k lo hi. all_only (Before (by r (g a))) (p k) _ (λ _. inr (refl, let x = h a in let y = h k in omega arith)))))

-- j is the first child's row, and lies where it is looked for; or there is nothing to choose
pub data Keyed (f : Form) : Type 0 where
  by_row : ((j : ℕ) → first_row (f.kids j) ≡ j) → ((j : ℕ) → Yes (f.meets j) → (f.first ≤ j) × (j < f.first + f.count)) → Keyed f
  alone : f.first ≡ 0 → f.count ≡ 1 → ((j : ℕ) → f.kids j ≡ f.kids 0) → ((j : ℕ) → f.meets j ≡ f.meets 0) → Keyed f

stays : (n : ℕ) (r : Ruling) (s : Shape) (kids : List Claim) (met : Bool) → Keyed (form n r s 0 1 (λ _. kids) (λ _. met))
stays n r s kids met = alone refl refl (λ _. refl) (λ _. refl)

pub keyed : (R : List Row) (i : ℕ) (l : Line) → AllOf Keyed (forms R i l)
unfolding forms
keyed R i (mark m) = (stays _ _ _ _ _, (stays _ _ _ _ _, tt))
keyed R i (neg l) = (stays _ _ _ _ _, (stays _ _ _ _ _, tt))
keyed R i (and l r) = (stays _ _ _ _ _, (stays _ _ _ _ _, (stays _ _ _ _ _, tt)))
keyed R i (or l r) = (stays _ _ _ _ _, (stays _ _ _ _ _, (stays _ _ _ _ _, tt)))
keyed R i (previous w l) = (
  stays _ _ _ _ _,
  (
    stays _ _ _ _ _,
    (
      stays _ _ _ _ _,
      (stays _ _ _ _ _, (stays _ _ _ _ _, tt)),
    ),
  ),
)
keyed R i (next w l) =
    (stays _ _ _ _ _, (stays _ _ _ _ _, (stays _ _ _ _ _, (stays _ _ _ _ _, tt))))
keyed R i (since w l r) = (
  by_row (λ j. refl) (λ j t. let h = leb→le j i (fst_of _ _ t) in omega arith),
  (
    by_row (λ j. refl)
        (λ j t. let a = fst_of (leb 1 j && leb j i) _ t in let p = leb→le 1 j (fst_of _ _ a) in let q = leb→le j i (snd_of (leb 1 j) _ a) in omega arith),
    (stays _ _ _ _ _, (stays _ _ _ _ _, tt)),
  ),
)
keyed R i (until w l r) = (
  by_row (λ j. refl)
      (λ j t. let a = fst_of (leb i j && ltb j (length R)) _ t in let p = leb→le i j (fst_of _ _ a) in let q = ltb→lt j (length R) (snd_of (leb i j) _ a) in omega arith),
  (
    by_row (λ j. refl)
        (λ j t. let a = fst_of (leb i j && ltb j (length R)) _ t in let p = leb→le i j (fst_of _ _ a) in let q = ltb→lt j (length R) (snd_of (leb i j) _ a) in omega arith),
    (stays _ _ _ _ _, tt),
  ),
)

module _ (T : Rules) (R : List Row) where
  abbrev Good : ℕ → ℕ → Ruling → Step → Type 0
  Good n i r s = Follows T R s.rule (record { line = n; row = i; ruling = r }) s.kids

  way_good : (n i : ℕ) (f : Form) → Allows T R n i f → Keyed f → AllOf (Good n i f.ruling) (ways_of f)
  way_good n i f a k = all_each (Good n i f.ruling) _ f.first f.count (λ j lo hi. all_only (Good n i f.ruling) _ _ (λ t. go k j t))
    where
      go : Keyed f → (j : ℕ) → Yes (f.meets j) → Good n i f.ruling (by f.number (f.kids j))
      go (by_row e m) j t = a (f.kids j) (ap f.kids (e j)) (subst (λ x. Yes (f.meets x)) (sym (e j)) t)
      go (alone p q e m) j t = a (f.kids j) (e (first_row (f.kids j)) ∙ sym (e j)) (subst Yes (m j ∙ sym (m (first_row (f.kids j)))) t)

  ways_good : (n i : ℕ) (r : Ruling) (fs : List Form) → AllOf (λ f. Allows T R n i f × Keyed f) fs → AllOf (Good n i r) (ways_in r fs)
  unfolding ways_in
  ways_good n i r [] h = tt
  ways_good n i r (f ∷ fs) h =
      all_both (Good n i r) _ _
      (all_guard (Good n i r) _ _ (λ t. subst (λ x. AllOf (Good n i x) (ways_of f)) (ruling_same f.ruling r t) (way_good n i f h.0.0 h.0.1)))
      (ways_good n i r fs h.1)

  way_found : (Q : Step → Type 0) (rule : ℕ) (r : Ruling) (kids : List Claim) (f : Form) → Keyed f → Gives T R rule r kids f → Q (by rule kids) → AnyOf Q (ways_of f)
  way_found Q rule r kids f (by_row e m) g q =
      let b = m (first_row kids) g.met in
      any_each Q _ f.first f.count (first_row kids) b.0 b.1 (any_only Q _ _ g.met (subst Q (sym (ap₂ by g.number_is g.kids_are)) q))
  way_found Q rule r kids f (alone p z e m) g q =
      any_each Q _ f.first f.count 0 (omega arith) (omega arith)
      (any_only Q _ _ (subst Yes (m (first_row kids)) g.met) (subst Q (sym (ap₂ by g.number_is (sym (e (first_row kids)) ∙ g.kids_are))) q))

  ways_found : (Q : Step → Type 0) (rule : ℕ) (r : Ruling) (kids : List Claim) (fs : List Form) → AllOf Keyed fs → AnyOf (Gives T R rule r kids) fs → Q (by rule kids) → AnyOf Q (ways_in r fs)
  unfolding ways_in
  ways_found Q rule r kids [] k g q = elim g [ ]
  ways_found Q rule r kids (f ∷ fs) k (here g) q =
      any_left Q _ _ (any_guard Q _ _ (subst (λ x. Yes (same_ruling f.ruling x)) g.ruling_is (ruling_refl f.ruling)) (way_found Q rule r kids f k.0 g q))
  ways_found Q rule r kids (f ∷ fs) k (there g) q = any_right Q _ _ (ways_found Q rule r kids fs k.1 g q)

  pub good : (c : Claim) → AllOf (λ s. Follows T R s.rule c s.kids) (steps T R c)
  good c =
      let P : Step → Type 0 = λ s. Follows T R s.rule c s.kids in
      all_guard P _ _ (λ p. all_guard P _ _ (λ q.
      ways_good c.line c.row c.ruling (forms R c.row (line_at T c.line))
      (all_zip _ _ _ (allowed T R c.row (ltb→lt _ _ q) c.line (line_at T c.line) (record { within = ltb→lt _ _ p; is = refl })) (keyed R c.row (line_at T c.line)))))

  pub found : {rule : ℕ} {c : Claim} {kids : List Claim} → Follows T R rule c kids → (Q : Step → Type 0) → Q (by rule kids) → AnyOf Q (steps T R c)
  found {rule = rule} {c = c} {kids = kids} f Q q =
      let h = formed T R f in
      any_guard Q _ _ (lt→ltb _ _ h.line_in) (any_guard Q _ _ (lt→ltb _ _ h.row_in)
      (ways_found Q rule c.ruling kids (forms R c.row (line_at T c.line)) (keyed R c.row (line_at T c.line)) h.form_in q))

one_way : (f : Form) (a : ℕ) → Sorted (for_each (λ j. guard (f.meets j) (by f.number (f.kids j) ∷ [])) (run a 1))
unfolding for_each run
one_way f a = sorted_both (guard (f.meets a) (by f.number (f.kids a) ∷ [])) [] (sorted_guard _ _ (ahead tt nothing)) nothing (all_only _ _ _ (λ _. tt))

way_sorted : (f : Form) → Keyed f → Sorted (ways_of f)
way_sorted f (by_row e m) = rows_each f.number f.meets f.kids f.first f.count e
way_sorted f (alone p q e m) =
    subst (λ n. Sorted (for_each (λ j. guard (f.meets j) (by f.number (f.kids j) ∷ [])) (run f.first n))) (sym q) (one_way f f.first)

numbered : (f : Form) → AllOf (λ (s : Step). s.rule ≡ f.number) (ways_of f)
numbered f = all_each _ _ f.first f.count (λ j lo hi. all_only (λ (s : Step). s.rule ≡ f.number) _ _ (λ _. refl))

above : (n : ℕ) (r : Ruling) (fs : List Form) → AllOf (λ (g : Form). n < g.number) fs → AllOf (λ (s : Step). n < s.rule) (ways_in r fs)
unfolding ways_in
above n r [] h = tt
above n r (f ∷ fs) h =
    let P : Step → Type 0 = λ s. n < s.rule in
    all_both P _ _ (all_guard P _ _ (λ _. all_weaken _ P (ways_of f) (λ s e. omega (arith, h.0)) (numbered f))) (above n r fs h.1)

pub ways_sorted : (r : Ruling) (fs : List Form) → Rises fs → AllOf Keyed fs → Sorted (ways_in r fs)
unfolding ways_in
ways_sorted r [] a k = nothing
ways_sorted r (f ∷ fs) a k =
    sorted_both (guard (same_ruling f.ruling r) (ways_of f)) (ways_in r fs) (sorted_guard _ _ (way_sorted f k.0)) (ways_sorted r fs a.1 k.1)
    (all_guard _ _ _ (λ _. all_weaken (λ (s : Step). s.rule ≡ f.number) _ (ways_of f)
    (λ s e. all_weaken (λ (t : Step). f.number < t.rule) (Before s) (ways_in r fs) (λ t l. inl (omega arith)) (above f.number r fs a.0)) (numbered f)))
