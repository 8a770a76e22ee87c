-- What each event keeps, and what its ruling rests on.
use Rattle.std.proofs.Common.{◌≡◌, ℕ, ◌≤◌, Bool, true, false, cond, T as Yes, leb, List, [], ◌∷◌, ◌++◌, Some, None, Ok, Err, Result, sym, refl, ap, ◌∙◌, subst, append_assoc, arith, leb→le, length-append}
use lib.ListN.{get_or-append}
use Rattle.logs.specs.Answers.{add_answer, grown}
use Rattle.mtl.specs.Bytes.{nodes}
use Rattle.mtl.specs.Certificates.{Certified}
use Rattle.mtl.specs.Checking.{accepted, refused}
use Rattle.mtl.specs.Claims.{claim}
use Rattle.mtl.specs.Continuations.{Continues, TrueIn, Always}
use Rattle.mtl.specs.Lines.{WellFormed}
use Rattle.mtl.specs.Lists.{here, there}
use Rattle.mtl.specs.Questions.{answer}
use Rattle.mtl.specs.Rows.{NeverFalls, last_time}
use Rattle.mtl.specs.declared.row.Row.{Row}
use Rattle.mtl.specs.declared.ruling.Claim.{Claim}
use Rattle.mtl.proofs.Exact.{accepted_certificate}
use Rattle.std.proofs.lemmas.List.{append-nil}
use Rattle.mtl.proofs.Settles.{ruled}
use Rattle.mtl.proofs.Sound.{sound}
use Rattle.logs.proofs.RowLists.{never_falls_push}
use Rattle.cases.specs.Runs.{State, Event, Added, Presented, Ruled, Looked, rules, rows_after, Step, Run, done, then}
use Rattle.cases.specs.Law.{Gave, rows_held, Happened}

pub record Good (s : State) : Type 0 where
  pub formed : WellFormed s.table
  pub rising : NeverFalls s.rows

added_rising : (R : List Row) (x : Row) (b : Bool) (a : Result (Unit {0}) ℕ) → NeverFalls R → a ≡ add_answer R x b → NeverFalls (grown R x a)
added_rising R x b (Err q) up e = up
added_rising R x b (Ok u) up e = never_falls_push R x up (go (leb (last_time R) x.time) (leb→le _ _) e)
  where
    go : (c : Bool) → (Yes c → last_time R ≤ x.time) → Ok u ≡ answer (cond c (cond b None (Some 8)) (Some 7)) tt → last_time R ≤ x.time
    go true f e = f tt
    go false f e = cc

rises : (s : State) (e : Event) (t : State) → Step s e t → NeverFalls s.rows → NeverFalls (rows_after s.rows e)
rises s (Added x a) t st up = added_rising s.rows x (s.room s.rows x) a up st.answers
rises s (Presented cert stack a) t st up = up
rises s (Ruled n i ls a out) t st up = up
rises s (Looked n i a) t st up = up

pub step_good : (s : State) (e : Event) (t : State) → Step s e t → Good s → Good t
step_good s e t st g =
    record {
      formed = subst WellFormed (sym st.same_table) g.formed;
      rising = subst NeverFalls (sym st.rows) (rises s e t st g.rising);
    }

-- a ruling rests on a certificate
pub ruling_cert : (s : State) (e : Event) (t : State) → Step s e t → Good s → (c : Claim) → rules e ≡ Some c → Certified s.table s.rows c
ruling_cert s (Added x a) t st g c e = cc
ruling_cert s (Presented cert stack (refused q d)) t st g c e = cc
ruling_cert s (Presented cert stack (accepted d)) t st g c e =
    let k : d ≡ c = cc in (nodes cert, (accepted_certificate s.table s.rows c cert stack (sym st.answers ∙ ap accepted k)).2)
ruling_cert s (Ruled n i ls (Err q) out) t st g c e = cc
ruling_cert s (Looked n i a) t st g c e = cc
ruling_cert s (Ruled n i ls (Ok a) out) t st g c e =
    let k : claim n i a.ruling ≡ c = cc in
    let r = ruled s.table s.rows g.formed g.rising n i a ls (sym st.answers.0) in
    subst (Certified s.table s.rows) k (r.proof, r.cert)

pub ruling_true : (s : State) (e : Event) (t : State) → Step s e t → Good s → (c : Claim) → rules e ≡ Some c → Always s.table s.rows c
ruling_true s e t st g c r ρ k = sound s.table g.formed s.rows ρ k (ruling_cert s e t st g c r).1

-- the rows after a run, and its table
pub run_rows : {s t : State} {es : List Event} → Run s es t → t.rows ≡ rows_held s.rows es
run_rows done = refl
run_rows (then {es = es} st r) = run_rows r ∙ ap (λ R. rows_held R es) st.rows

-- later rows stand after the earlier ones
more_one : (R : List Row) (e : Event) → (more : List Row) × (rows_after R e ≡ R ++ more)
more_one R (Added x (Ok u)) = (x ∷ [], refl)
more_one R (Added x (Err q)) = ([], sym (append-nil R))
more_one R (Presented cert stack a) = ([], sym (append-nil R))
more_one R (Ruled n i ls a out) = ([], sym (append-nil R))
more_one R (Looked n i a) = ([], sym (append-nil R))

more_rows : (R : List Row) (es : List Event) → (more : List Row) × (rows_held R es ≡ R ++ more)
more_rows R [] = ([], sym (append-nil R))
more_rows R (e ∷ es) =
    let a = more_one R e in let b = more_rows (rows_after R e) es in
    (a.0 ++ b.0, b.1 ∙ ap (λ X. X ++ b.0) a.1 ∙ append_assoc R a.0 b.0)

pub run_table : {s t : State} {es : List Event} → Run s es t → t.table ≡ s.table
run_table done = refl
run_table (then st r) = run_table r ∙ st.same_table

fewer : (R more : List Row) (ρ : ℕ → Row) → Continues (R ++ more) ρ → Continues R ρ
fewer R more ρ c =
    record {
      begins = λ i h. let l = length-append R more in c.begins i (omega arith) ∙ get_or-append R more _ i h;
      rises = c.rises;
      passes = c.passes;
    }

-- a ruling stays true in every continuation of the rows held at the end
pub gave_true : {s t : State} {es : List Event} → Run s es t → Good s → (c : Claim) → Gave es c → Always t.table t.rows c
gave_true done g c h = elim h [ ]
gave_true (then {s = s} {t = t} {u = u} {e = e} {es = es} st r) g c (here h) =
    let w = then st r in let m = more_rows s.rows (e ∷ es) in λ ρ k.
    subst (λ T. TrueIn T ρ c) (sym (run_table w)) (ruling_true s e t st g c h ρ (fewer s.rows m.0 ρ (subst (λ R. Continues R ρ) (run_rows w ∙ m.1) k)))
gave_true (then {s = s} {t = t} {e = e} st r) g c (there h) = gave_true r (step_good s e t st g) c h

pub run_good : {s t : State} {es : List Event} → Run s es t → Good s → Good t
run_good done g = g
run_good (then {s = s} {t = t} {e = e} st r) g = run_good r (step_good s e t st g)

-- where an event of a run happened
pub record At (o : State) (before : List Event) (e : Event) : Type 0 where
  pub here : State
  pub next : State
  pub ran : Run o before here
  pub step : Step here e next
  pub good : Good here
  pub same_table : here.table ≡ o.table
  pub rows_are : here.rows ≡ rows_held o.rows before

split : (before : List Event) (e : Event) (after es : List Event) {o t : State} → before ++ (e ∷ after) ≡ es → Run o es t → (s : State) × (u : State) × Run o before s × Step s e u
split [] e after [] h r = cc
split (b ∷ before) e after [] h r = cc
split [] e after (d ∷ es) {o = o} h (then {t = t} st r) = let k : d ≡ e = cc in (o, t, done, subst (λ x. Step o x t) k st)
split (b ∷ before) e after (d ∷ es) {o = o} h (then {t = t} st r) =
    let k : d ≡ b = cc in let l : before ++ (e ∷ after) ≡ es = cc in
    let w = split before e after es l r in (w.0, w.1, then (subst (λ x. Step o x t) k st) w.2, w.3)

pub happened : {o t : State} {es : List Event} → Run o es t → Good o → (before : List Event) (e : Event) → Happened es before e → At o before e
happened {es = es} r g before e h =
    let w = split before e h.0 es h.1 r in
    record { here = w.0; next = w.1; ran = w.2; step = w.3; good = run_good w.2 g; same_table = run_table w.2; rows_are = run_rows w.2 }
