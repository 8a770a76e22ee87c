-- What the listing's definitions come to.
use Rattle.std.specs.Prelude.{◌≡◌, ℕ, zero, suc, ◌-◌, ◌<◌, ◌≤◌, Bool, true, false, ◌&&◌, ◌⊎◌, List, length, Ok, Err, Result, ◌==◌, slice_index}
use Rattle.mtl.specs.declared.row.Row.{Row}
use Rattle.mtl.specs.declared.ruling.Settled.{Settled}
use Rattle.mtl.specs.Lines.{Rules}
use Rattle.mtl.specs.Settling.{settle_answer}
use Rattle.listing.specs.Inputs.{rules_length}
use Rattle.listing.specs.Rulings.{roomy}

-- an empty line ends at place k: byte 10 stands there, and before it byte 10 or, where a line begins with the text, nothing
abbrev pub empty_line_at : Bool → List ℕ → ℕ → Bool
empty_line_at fresh text zero = fresh && slice_index text 0 == 10
empty_line_at fresh text (suc k) = slice_index text k == 10 && slice_index text (suc k) == 10

-- the first empty line ends at place n, or there is none and n is the length
pub record FirstEmptyLine (text : List ℕ) (n : ℕ) : Type 0 where
  pub within : n ≤ length text
  pub there : n < length text → empty_line_at true text n ≡ true
  pub none_before : (k : ℕ) → k < n → empty_line_at true text k ≡ false

-- an input is cut at its first empty line
abbrev pub CutAtFirst : Type 0
CutAtFirst = (input : List ℕ) → FirstEmptyLine input (rules_length true input)

-- held or broken by at most 4096 nodes, or open (24), or long (25)
abbrev pub RuledOr : Result Settled ℕ → Type 0
RuledOr (Ok s) = s.size ≤ 4096
RuledOr (Err q) = (q ≡ 24) ⊎ (q ≡ 25)

-- no row that is listed gets another refusal
abbrev pub EveryRow : Type 0
EveryRow = (T : Rules) (R : List Row) (i : ℕ) → 0 < length T → i < length R → RuledOr (settle_answer T R (length T - 1) i roomy)
