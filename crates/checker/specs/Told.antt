-- What Check's answer tells: the claim, or the number of the first question that is answered no, and the node.
use Rattle.std.specs.Prelude.{◌≡◌, ℕ, ◌≤◌, Bool, false, ◌↔◌, List, length, Ok, Err, Result, nat_lt}
use Rattle.mtl.specs.declared.ruling.Claim.{Claim}
use Rattle.mtl.specs.declared.row.Row.{Row}
use Rattle.mtl.specs.Bytes.{nodes}
use Rattle.mtl.specs.Laws.{IsCertificate}
use Rattle.mtl.specs.Lines.{Rules}
use Rattle.mtl.specs.Checking.{Verdict, accepted, refused}
use Rattle.checker.specs.declared.fault.CheckFault.{CheckFault}
use Rattle.checker.specs.declared.fault.CheckFault.TheVariants.{NotWholeNodes, TooLong, StackTooShort, NoSuchLine, RuleOfOtherKind, NoSuchRow, WrongCount, WrongChild, ConditionNotMet, NotOneLeft}

-- the number of each fault, and its node
abbrev pub fault_told : CheckFault → ℕ × ℕ
fault_told NotWholeNodes = (11, 0)
fault_told TooLong = (12, 0)
fault_told StackTooShort = (13, 0)
fault_told (NoSuchLine node) = (14, node)
fault_told (RuleOfOtherKind node) = (15, node)
fault_told (NoSuchRow node) = (16, node)
fault_told (WrongCount node) = (17, node)
fault_told (WrongChild node) = (18, node)
fault_told (ConditionNotMet node) = (19, node)
fault_told (NotOneLeft nodes) = (20, nodes)

abbrev pub told : Result Claim CheckFault → Verdict
told (Ok c) = accepted c
told (Err f) = refused (fault_told f).0 (fault_told f).1

-- refused before any node is looked at
abbrev pub early : Verdict → Bool
early (accepted c) = false
early (refused q k) = nat_lt q 14

-- given stack enough, the answer is a claim exactly where the bytes are a certificate of it
abbrev pub AcceptsExactly : Rules → List Row → List ℕ → ℕ → Result Claim CheckFault → Type 0
AcceptsExactly T R bs stack r = length (nodes bs) ≤ stack → (c : Claim) → (r ≡ Ok c) ↔ IsCertificate T R bs c
