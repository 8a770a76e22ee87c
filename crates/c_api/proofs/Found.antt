-- From what Check and Settle say of a table and rows to what is said of the texts.
use Rattle.std.proofs.Common.{◌≡◌, ℕ, ◌≤◌, List, [], Ok, Err, Result, sym, subst, lit≤}
use Rattle.mtl.specs.declared.row.Row.{Row}
use Rattle.mtl.specs.declared.ruling.Claim.{Claim}
use Rattle.mtl.specs.declared.ruling.Settled.{Settled}
use Rattle.mtl.specs.Checking.{refused}
use Rattle.mtl.specs.Laws.{CheckSays, SettleSays}
use Rattle.mtl.specs.Lines.{Rules}
use Rattle.mtl.specs.Settling.{wrote}
use Rattle.checker.specs.Told.{told as check_told, fault_told}
use Rattle.checker.specs.declared.fault.CheckFault.{CheckFault}
use Rattle.checker.specs.declared.fault.CheckFault.TheVariants as check
use Rattle.writer.specs.Told.{told as settle_told, settle_number}
use Rattle.writer.specs.declared.fault.SettleFault.{SettleFault}
use Rattle.writer.specs.declared.fault.SettleFault.TheVariants as settle
use Rattle.c_api.specs.Meanings.{ReadAny, CheckFound, SettleFound}
use Rattle.c_api.specs.Readings.{by_verdict, by_number, table_in, rows_in, room_for}

-- no fault has the number 0
pub check_counts : (f : CheckFault) → 1 ≤ (fault_told f).0
check_counts check.NotWholeNodes = lit≤ tt
check_counts check.TooLong = lit≤ tt
check_counts check.StackTooShort = lit≤ tt
check_counts (check.NoSuchLine node) = lit≤ tt
check_counts (check.RuleOfOtherKind node) = lit≤ tt
check_counts (check.NoSuchRow node) = lit≤ tt
check_counts (check.WrongCount node) = lit≤ tt
check_counts (check.WrongChild node) = lit≤ tt
check_counts (check.ConditionNotMet node) = lit≤ tt
check_counts (check.NotOneLeft nodes) = lit≤ tt

pub settle_counts : (f : SettleFault) → 1 ≤ settle_number f
settle_counts settle.NoSuchLine = lit≤ tt
settle_counts settle.NoSuchRow = lit≤ tt
settle_counts settle.BufferShort = lit≤ tt
settle_counts settle.Open = lit≤ tt
settle_counts settle.TooLong = lit≤ tt
settle_counts settle.OutputShort = lit≤ tt

-- the texts give one table and one list of rows
pub read_as : (rules log : List ℕ) (T : Rules) (R : List Row) → Ok T ≡ table_in rules → Ok R ≡ rows_in log → (P : Rules → List Row → Type 0) → P T R → ReadAny rules log P
read_as rules log T R t r P p T' R' reads =
    let a : T ≡ T' = cc in
    let b : R ≡ R' = cc in
    subst (λ X. P X R') a (subst (P T) b p)

-- what Check says of the table and the rows that the texts give
pub check_found :
    (rules log cert : List ℕ) (T : Rules) (R : List Row) (a : Result Claim CheckFault) → Ok T ≡ table_in rules → Ok R ≡ rows_in log →
    CheckSays T R cert 4096 (check_told a) → CheckFound rules log cert (by_verdict (check_told a))
check_found rules log cert T R (Ok c) t r says = (T, R, record { table = sym t; rows = sym r }, says)
check_found rules log cert T R (Err f) t r says =
    (check_counts f, read_as rules log T R t r (λ X Y. CheckSays X Y cert 4096 (refused (fault_told f).0 (fault_told f).1)) says)

-- what Settle says of them
pub settle_found :
    (rules log : List ℕ) (T : Rules) (R : List Row) (n i room : ℕ) (out : List ℕ) (a : Result Settled SettleFault) → Ok T ≡ table_in rules → Ok R ≡ rows_in log →
    SettleSays T R n i (room_for room) (settle_told a) (wrote (settle_told a) out) → SettleFound rules log n i room out (by_number (settle_told a))
settle_found rules log T R n i room out (Ok s) t r says = (T, R, record { table = sym t; rows = sym r }, says)
settle_found rules log T R n i room out (Err f) t r says =
    (settle_counts f, read_as rules log T R t r (λ X Y. SettleSays X Y n i (room_for room) (Err (settle_number f)) []) says)
