-- The least of several ways to rule a claim, and how a table of cells is read.
use Rattle.std.specs.Prelude.{ℕ, zero, suc, ◌+◌, ◌*◌, Bool, cond, List, [], ◌∷◌, Some, None, Option, nat_lt, slice_index}
use Rattle.std.specs.Int.NonZero.{non_zero_u16_get}
use Rattle.std.specs.declared.num.NonZeroU16.{NonZeroU16}
use Rattle.mtl.specs.Cells.{sum_cells, add_cell, first_of}
use Rattle.mtl.specs.Claims.{same_ruling}
use Rattle.mtl.specs.Forms.{Form}
use Rattle.mtl.specs.Ranges.{run}
use Rattle.mtl.specs.declared.ruling.Claim.{Claim}
use Rattle.mtl.specs.declared.ruling.Ruling.{Ruling}
use Rattle.mtl.specs.declared.ruling.Ruling.TheVariants.{Held as held, Broken as broken}
use Rattle.writer.specs.declared.offer.Offer.{Offer}
use Rattle.writer.specs.declared.offer.Pick.{Pick}

-- the two cells of a claim: a size, 0 for none, and the rule and row that give it
pub record Best : Type 0 where
  pub size : ℕ
  pub code : ℕ

-- no way at all
abbrev pub none : Best
none = record { size = 0; code = 0 }

-- a size as it stands in a cell, 0 for none
abbrev pub sized : Option NonZeroU16 → ℕ
sized None = 0
sized (Some n) = non_zero_u16_get n

-- a rule and its row j in one cell
abbrev pub code_of : Pick → ℕ
code_of p = 256 * p.rule + p.row

-- a way as it stands in the cells
abbrev pub cells_of : Option Offer → Best
cells_of None = none
cells_of (Some o) = record { size = non_zero_u16_get o.size; code = code_of o.pick }

-- the smaller of two, the first among equals
abbrev pub merge : Best → Best → Best
merge a b = cond (first_of a.size b.size) a b

-- a way of this cost
abbrev pub choice : ℕ → ℕ → Best
choice zero code = none
choice (suc n) code = record { size = suc n; code = code }

-- a way, if its condition is met
abbrev pub offer : Bool → ℕ → ℕ → Best
offer b size code = cond b (choice size code) none

-- a sum with one more child, if it is among the children
abbrev pub add_if : Bool → ℕ → ℕ → ℕ
add_if b a c = cond b (add_cell a c) a

-- a rule's way by j
abbrev pub way_by : (Claim → ℕ) → Form → ℕ → Best
way_by g f j = offer (f.meets j) (sum_cells g 1 (f.kids j)) (256 * f.number + j)

-- the least of a rule's ways by these rows
unfoldable pub of_ways : (Claim → ℕ) → Form → List ℕ → Best
of_ways g f [] = none
of_ways g f (j ∷ js) = merge (way_by g f j) (of_ways g f js)

-- the least way to a ruling among these forms
unfoldable pub of_forms : (Claim → ℕ) → Ruling → List Form → Best
of_forms g r [] = none
of_forms g r (f ∷ fs) = merge (cond (same_ruling f.ruling r) (of_ways g f (run f.first f.count)) none) (of_forms g r fs)

-- where a claim's cell stands
abbrev pub place : Claim → ℕ
place c = 256 * c.line + (2 * c.row + elim c.ruling [ held ↦ 0 | broken ↦ 1 ])

-- a claim's cell in a table of cells
unfoldable pub cell_in : List ℕ → Claim → ℕ
cell_in cs c = cond (nat_lt c.row 128) (slice_index cs (place c)) 0
