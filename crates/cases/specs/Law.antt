-- The law of the case: what every run from an opened case keeps.
use Rattle.std.specs.Prelude.{◌≡◌, ℕ, List, [], ◌∷◌, ◌++◌, Some, None, Ok, Option, Result, ◌≢◌}
use Rattle.mtl.specs.declared.row.Row.{Row}
use Rattle.mtl.specs.declared.ruling.Claim.{Claim}
use Rattle.mtl.specs.declared.ruling.Ruling.{Ruling}
use Rattle.mtl.specs.declared.ruling.Settled.{Settled}
use Rattle.mtl.specs.Lists.{AllOf, AnyOf}
use Rattle.mtl.specs.Rows.{NeverFalls}
use Rattle.mtl.specs.Lines.{Rules, WellFormed}
use Rattle.mtl.specs.Claims.{claim}
use Rattle.mtl.specs.Continuations.{Always}
use Rattle.mtl.specs.Settling.{Lengths}
use Rattle.mtl.specs.Laws.{SettleSays}
use Rattle.cases.specs.Runs.{State, Event, Ruled, Looked, rules, rows_after, Run}

-- the event gives no ruling on line n at row i
abbrev pub Leaves : ℕ → ℕ → Event → Type 0
Leaves n i e = (r : Ruling) → rules e ≢ Some (claim n i r)

-- the ruling of the last event that ruled on the line at the row, or none, which is open, if none did
pub data LastRuled (es : List Event) (n i : ℕ) : Option Ruling → Type 0 where
  none_ruled : AllOf (Leaves n i) es → LastRuled es n i None
  last_ruled :
      (before : List Event) (e : Event) (after : List Event) (r : Ruling) → before ++ (e ∷ after) ≡ es → rules e ≡ Some (claim n i r) →
      AllOf (Leaves n i) after → LastRuled es n i (Some r)

-- one of the events gave this ruling
abbrev pub Gave : List Event → Claim → Type 0
Gave es c = AnyOf (λ e. rules e ≡ Some c) es

-- the rows held after the events: those at first, then each accepted Add's, in order
abbrev pub rows_held : List Row → List Event → List Row
rows_held R [] = R
rows_held R (e ∷ es) = rows_held (rows_after R e) es

-- e is one of the events, and those before it are these
abbrev pub Happened : List Event → List Event → Event → Type 0
Happened es before e = (after : List Event) × (before ++ (e ∷ after) ≡ es)

-- T is the table, R are the rows that Open found; es are the calls since then, with their answers
pub record Lawful (T : Rules) (R : List Row) (es : List Event) : Type 0 where
  -- a Show answers the ruling of the last accepted Present or Settle for its line and row, or open if there was none
  pub shown : (before : List Event) (n i : ℕ) (x : Option Ruling) → Happened es before (Looked n i (Ok x)) → LastRuled before n i x
  -- no ruling is withdrawn or reversed: two rulings on one line and row are the same
  pub kept : (n i : ℕ) (q r : Ruling) → Gave es (claim n i q) → Gave es (claim n i r) → q ≡ r
  -- a ruling is true in every continuation of the rows held when it was given
  pub true_always : (before : List Event) (e : Event) → Happened es before e → (c : Claim) → rules e ≡ Some c → Always T (rows_held R before) c
  -- a Settle says, on that table and the rows then held: where it refuses, the first of its questions that is answered no, and never open of
  -- a line in reach; where it accepts, a ruling whose written certificate Check accepts and than which no certificate that Check accepts
  -- for the same line, row and ruling has fewer nodes
  pub settled :
      (before : List Event) (n i : ℕ) (ls : Lengths) (a : Result Settled ℕ) (out : List ℕ) → Happened es before (Ruled n i ls a out) →
      SettleSays T (rows_held R before) n i ls a out

-- what Open makes: a table in order, rows whose times never fall, and a book that shows open everywhere
pub record Opened (o : State) : Type 0 where
  pub formed : WellFormed o.table
  pub rising : NeverFalls o.rows
  pub blank : (n i : ℕ) → o.book n i ≡ None

-- every list of calls on the opened case, in whatever state it ends
abbrev pub Law : State → Type 0
Law o = (es : List Event) (t : State) → Run o es t → Lawful o.table o.rows es
