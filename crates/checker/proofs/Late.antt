-- Once the nodes are looked at, no question before them is told.
use Rattle.std.proofs.Common.{◌≡◌, ℕ, suc, Bool, true, false, ltb, List, [], ◌∷◌, length, Option, refl}
use Rattle.mtl.specs.declared.row.Row.{Row}
use Rattle.mtl.specs.declared.ruling.Claim.{Claim}
use Rattle.mtl.specs.declared.ruling.Node.{Node}
use Rattle.mtl.specs.Checking.{form_at, known, form_or, Went, stops, goes, node_step, Verdict, refused, ended, checks}
use Rattle.mtl.specs.Forms.{Form, forms}
use Rattle.mtl.specs.Lines.{Rules, line_at}
use Rattle.checker.specs.Told.{early}
use Rattle.checker.proofs.Judged.{by_six, waits, shows, met, after}

abbrev Late : Went → Type 0
Late (stops q) = ltb q 14 ≡ false
Late (goes t) = Unit {0}

six_late : (a b c d e f : Bool) (t : List Claim) → Late (by_six a b c d e f t)
six_late false b c d e f t = refl
six_late true false c d e f t = refl
six_late true true false d e f t = refl
six_late true true true false e f t = refl
six_late true true true true false f t = refl
six_late true true true true true false t = refl
six_late true true true true true true t = tt

module _ (T : Rules) (R : List Row) where
  step_late : (s : List Claim) (d : Node) → Late (node_step T R s d)
  unfolding node_step
  step_late s d =
      six_late (ltb d.line (length T)) (known x) (ltb d.row (length R)) (waits s d (form_or x)) (shows s d (form_or x)) (met s d (form_or x)) (after s d (form_or x).ruling)
    where
      x : Option Form
      x = form_at (forms R d.row (line_at T d.line)) d.rule

  end_late : (s : List Claim) (k : ℕ) → early (ended s k) ≡ false
  end_late [] k = refl
  end_late (c ∷ []) k = refl
  end_late (c ∷ d ∷ s) k = refl

  pub late : (s : List Claim) (ns : List Node) (k : ℕ) → early (checks T R s ns k) ≡ false
  unfolding checks
  late s [] k = end_late s k
  late s (d ∷ ns) k = go (node_step T R s d) (step_late s d) (λ t. late t ns (suc k))
    where
      go : (w : Went) → Late w → ((t : List Claim) → early (checks T R t ns (suc k)) ≡ false) →
          early (elim w as (λ _. Verdict) [ stops q ↦ refused q k | goes t ↦ checks T R t ns (suc k) ]) ≡ false
      go (stops q) h ih = h
      go (goes t) h ih = ih t
