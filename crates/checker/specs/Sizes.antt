-- The answer to the questions before any node.
use Rattle.std.specs.Prelude.{ℕ, ◌*◌, ◌/◌, ◌%◌, ◌≤◌, Bool, cond, ◌&&◌, Ok, Err, Result, ◌==◌, nat_le, nat_lt}
use Rattle.checker.specs.declared.fault.CheckFault.{CheckFault}
use Rattle.checker.specs.declared.fault.CheckFault.TheVariants.{NotWholeNodes, TooLong, StackTooShort}

-- whole nodes, few enough, and places for them
abbrev pub by_three : Bool → Bool → Bool → Result (Unit {0}) CheckFault
by_three whole few room = cond whole (cond few (cond room (Ok tt) (Err StackTooShort)) (Err TooLong)) (Err NotWholeNodes)

abbrev pub size_answer : ℕ → ℕ → Result (Unit {0}) CheckFault
size_answer bytes places = by_three (nat_lt 0 bytes && bytes % 6 == 0) (nat_le bytes 24576) (nat_le (bytes / 6) places)

-- the stack then has a place for every node
abbrev pub Room : ℕ → ℕ → Result (Unit {0}) CheckFault → Type 0
Room bytes places (Ok u) = bytes ≤ 6 * places
Room bytes places (Err f) = Unit {0}
