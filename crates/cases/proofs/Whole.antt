-- The law of the case.
use Rattle.std.proofs.Common.{◌≡◌, ℕ, List, Some, None, Ok, Option, sym, refl, subst}
use Rattle.mtl.specs.declared.row.Row.{Row}
use Rattle.mtl.specs.declared.ruling.Ruling.{Ruling}
use Rattle.mtl.specs.declared.ruling.Ruling.TheVariants.{Held as held, Broken as broken}
use Rattle.mtl.specs.Questions.{first_no, answer}
use Rattle.mtl.specs.Lines.{Rules}
use Rattle.mtl.specs.Claims.{claim}
use Rattle.mtl.specs.Continuations.{TrueIn, Always}
use Rattle.mtl.specs.Laws.{SettleSays}
use Rattle.mtl.proofs.Consistent.{onward, onward_continues}
use Rattle.mtl.proofs.Settles.{settle_says}
use Rattle.cases.specs.Runs.{State, Event, Ruled, Looked, show_questions}
use Rattle.cases.specs.Law.{Opened, Law, LastRuled, Gave, rows_held}
use Rattle.cases.proofs.Kept.{Good, At, happened, ruling_true, gave_true, run_good}
use Rattle.cases.proofs.Shown.{run_shows}

one_true : (T : Rules) (ρ : ℕ → Row) (n i : ℕ) (q r : Ruling) → TrueIn T ρ (claim n i q) → TrueIn T ρ (claim n i r) → q ≡ r
one_true T ρ n i held held a b = refl
one_true T ρ n i held broken a b = absurd (b a)
one_true T ρ n i broken held a b = absurd (a b)
one_true T ρ n i broken broken a b = refl

shown_is : (q : Option ℕ) (x y : Option Ruling) → Ok x ≡ answer q y → y ≡ x
shown_is None x y e = cc
shown_is (Some q) x y e = cc

-- from the state at an event to the table and the rows that the history tells
told :
    (o : State) (P : Rules → List Row → Type 0) (before : List Event) (e : Event) (w : At o before e) → P w.here.table w.here.rows →
    P o.table (rows_held o.rows before)
told o P before e w h =
    subst (λ T. P T (rows_held o.rows before)) w.same_table (subst (λ R. P w.here.table R) w.rows_are h)

pub lawful : (o : State) → Opened o → Law o
lawful o op es t run =
    record {
      shown = λ before n i x h.
          let w = happened run g before (Looked n i (Ok x)) h in
          subst (LastRuled before n i) (shown_is (first_no (show_questions w.here.table w.here.rows n i)) x (w.here.book n i) w.step.answers)
          (run_shows w.ran n i (op.blank n i));
      kept = λ n i q r a b.
          let k = onward_continues t.rows (run_good run g).rising in
          let at_end : (x : Ruling) → Gave es (claim n i x) → TrueIn t.table (onward t.rows) (claim n i x) = λ x h. gave_true run g (claim n i x) h (onward t.rows) k in
          one_true t.table (onward t.rows) n i q r (at_end q a) (at_end r b);
      true_always = λ before e h c r.
          let w = happened run g before e h in
          told o (λ T R. Always T R c) before e w (ruling_true w.here e w.next w.step w.good c r);
      settled = λ before n i ls a out h.
          let w = happened run g before (Ruled n i ls a out) h in
          told o (λ T R. SettleSays T R n i ls a out) before (Ruled n i ls a out) w
          (settle_says w.here.table w.good.formed w.here.rows w.good.rising n i ls a out (sym w.step.answers.0) w.step.answers.1);
    }
  where
    g : Good o
    g = record { formed = op.formed; rising = op.rising }
