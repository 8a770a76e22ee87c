-- What a node's judgement means for the waiting subtrees.
use Rattle.std.specs.Prelude.{◌≡◌, ℕ, ◌-◌, ◌≤◌, List, [], ◌∷◌, ◌++◌, length, take, Ok, Err, Result}
use Rattle.mtl.specs.declared.ruling.Claim.{Claim}
use Rattle.mtl.specs.declared.ruling.Node.{Node}
use Rattle.mtl.specs.declared.ruling.Ruling.{Ruling}
use Rattle.mtl.specs.Checking.{Went, stops, goes}
use Rattle.mtl.specs.Claims.{claim}
use Rattle.checker.specs.declared.fault.CheckFault.{CheckFault}
use Rattle.checker.specs.Told.{fault_told}

-- with s waiting, node d is ruled so, or stops at the fault's question
abbrev pub stepped : List Claim → Node → Result Ruling CheckFault → Went
stepped s d (Ok r) = goes (take (length s - d.count) s ++ (claim d.line d.row r ∷ []))
stepped s d (Err f) = stops (fault_told f).0

-- node number at: a fault tells it, and what is ruled has found its children waiting
abbrev pub AtNode : ℕ → List Claim → Node → Result Ruling CheckFault → Type 0
AtNode at s d (Ok r) = d.count ≤ length s
AtNode at s d (Err f) = (fault_told f).1 ≡ at
