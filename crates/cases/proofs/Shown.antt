-- What the book shows after a run.
use Rattle.std.proofs.Common.{◌≡◌, ℕ, Bool, true, false, cond, ◌&&◌, T as Yes, eqb, List, [], ◌∷◌, ◌++◌, Some, None, Option, sym, refl, ap, ◌∙◌, subst, eqb→eq}
use lib.Dec.{eqb_refl}
use Rattle.mtl.specs.Claims.{claim}
use Rattle.mtl.specs.Lists.{AllOf}
use Rattle.mtl.specs.declared.ruling.Claim.{Claim}
use Rattle.mtl.specs.declared.ruling.Ruling.{Ruling}
use Rattle.cases.specs.Runs.{State, Event, entered, rules, Run, done, then}
use Rattle.cases.specs.Law.{Leaves, LastRuled, none_ruled, last_ruled}

-- from an entry x on: it stays if no event rules there
data From (x : Option Ruling) (es : List Event) (n i : ℕ) : Option Ruling → Type 0 where
  stays : AllOf (Leaves n i) es → From x es n i x
  turns :
      (before : List Event) (e : Event) (after : List Event) (r : Ruling) → before ++ (e ∷ after) ≡ es → rules e ≡ Some (claim n i r) →
      AllOf (Leaves n i) after → From x es n i (Some r)

-- one event: it leaves the entry, or sets it
data One (e : Event) (n i : ℕ) (x y : Option Ruling) : Type 0 where
  left : Leaves n i e → x ≡ y → One e n i x y
  set : (r : Ruling) → rules e ≡ Some (claim n i r) → Some r ≡ y → One e n i x y

one : (e : Event) (book : ℕ → ℕ → Option Ruling) (n i : ℕ) (y : Option Ruling) → y ≡ entered (rules e) book n i → One e n i (book n i) y
one e book n i y w = go (rules e) refl w
  where
    go : (o : Option Claim) → rules e ≡ o → y ≡ entered o book n i → One e n i (book n i) y
    go None h w = left (λ r k. cc) (sym w)
    go (Some c) h w = at (eqb c.line n) (eqb→eq c.line n) (back c.line n) (eqb c.row i) (eqb→eq c.row i) (back c.row i) w
      where
        back : (a b : ℕ) → a ≡ b → Yes (eqb a b)
        back a b p = subst (λ x. Yes (eqb a x)) p (eqb_refl a)

        at : (a : Bool) → (Yes a → c.line ≡ n) → (c.line ≡ n → Yes a) → (b : Bool) → (Yes b → c.row ≡ i) → (c.row ≡ i → Yes b) →
            y ≡ cond (a && b) (Some c.ruling) (book n i) → One e n i (book n i) y
        at true p p' true q q' w = set c.ruling (h ∙ ap Some (λ k. record { line = p tt k; row = q tt k; ruling = c.ruling })) (sym w)
        at true p p' false q q' w = left (λ r k. let d : c ≡ claim n i r = cc in q' (ap (λ (x : Claim). x.row) d)) (sym w)
        at false p p' b q q' w = left (λ r k. let d : c ≡ claim n i r = cc in p' (ap (λ (x : Claim). x.line) d)) (sym w)

from_one : (x y z : Option Ruling) (e : Event) (es : List Event) (n i : ℕ) → One e n i x y → From y es n i z → From x (e ∷ es) n i z
from_one x y z e es n i (left h w) (stays a) = subst (λ v. From x (e ∷ es) n i v) w (stays (h, a))
from_one x y z e es n i (set r h w) (stays a) = subst (λ v. From x (e ∷ es) n i v) w (turns [] e es r refl h a)
from_one x y z e es n i o (turns before d after r s h a) = turns (e ∷ before) d after r (ap (λ l. e ∷ l) s) h a

run_from : {s t : State} {es : List Event} → Run s es t → (n i : ℕ) → From (s.book n i) es n i (t.book n i)
run_from done n i = stays tt
run_from (then {s = s} {t = t} {u = u} {e = e} {es = es} st r) n i =
    from_one (s.book n i) (t.book n i) (u.book n i) e es n i (one e s.book n i (t.book n i) (st.book n i)) (run_from r n i)

shows : (x y : Option Ruling) (es : List Event) (n i : ℕ) → x ≡ None → From x es n i y → LastRuled es n i y
shows x y es n i o (stays a) = subst (LastRuled es n i) (sym o) (none_ruled a)
shows x y es n i o (turns before e after r s h a) = last_ruled before e after r s h a

pub run_shows : {s t : State} {es : List Event} → Run s es t → (n i : ℕ) → s.book n i ≡ None → LastRuled es n i (t.book n i)
run_shows {s = s} {t = t} {es = es} r n i o = shows (s.book n i) (t.book n i) es n i o (run_from r n i)
