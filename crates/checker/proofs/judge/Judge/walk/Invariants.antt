use Rattle.std.proofs.Common.{◌≡◌, ◌+◌, ◌*◌, ◌≤◌, [], length, take}
use Rattle.mtl.specs.Bytes.{nodes}
use Rattle.mtl.specs.Checking.{checks}
use Rattle.mtl.specs.Tables.{lines_of}
use Rattle.checker.proofs.judge.Judge.walk.Given as goal

-- what is left gives the whole answer, and the stack has room for it
abbrev pub invariant-loop-left : goal.invariant-loop-left
invariant-loop-left g l =
    (checks (lines_of l.self.table.now) (g.L.Readable.rows l.self.log.now) (take l.top l.stack) (nodes l.left) l.at
    ≡ checks (lines_of l.self.table.now) (g.L.Readable.rows l.self.log.now) [] (nodes l.certificate) 0)
    × (l.top ≤ l.at)
    × (6 * l.at + length l.left ≡ length l.certificate)
    × (length l.stack ≡ length l.initial.stack)

abbrev pub decreases-loop-left : goal.decreases-loop-left
decreases-loop-left g l = length l.left
