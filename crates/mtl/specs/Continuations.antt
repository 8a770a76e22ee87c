-- Endless continuations of a log, and what is true in them.
use Rattle.std.specs.Prelude.{◌≡◌, ℕ, suc, ◌<◌, ◌≤◌, List, length}
use Rattle.mtl.specs.Rows.{Row, row_at}
use Rattle.mtl.specs.Lines.{Rules}
use Rattle.mtl.specs.Formulas.{formula, Truth}
use Rattle.mtl.specs.Claims.{Ruling, held, broken, Claim}

-- an endless list of rows that begins with R, whose times never fall and pass every number
pub record Continues (R : List Row) (ρ : ℕ → Row) : Type 0 where
  pub begins : (i : ℕ) → i < length R → ρ i ≡ row_at R i
  pub rises : (i : ℕ) → (ρ i).time ≤ (ρ (suc i)).time
  pub passes : (b : ℕ) → (i : ℕ) × (b < (ρ i).time)

-- held says that its line is true, broken that it is not
abbrev pub RulingTrue : Ruling → Type 0 → Type 0
RulingTrue held P = P
RulingTrue broken P = P → ⊥

-- the claim's ruling is true in ρ
abbrev pub TrueIn : Rules → (ℕ → Row) → Claim → Type 0
TrueIn T ρ c = RulingTrue c.ruling (Truth ρ (formula T c.line) c.row)

-- and in every continuation of R
abbrev pub Always : Rules → List Row → Claim → Type 0
Always T R c = (ρ : ℕ → Row) → Continues R ρ → TrueIn T ρ c
