use Rattle.std.proofs.Common.{ℕ, List, length}
use Rattle.logs.specs.contracts.mask.MaskLogReadable.TheImpl.{ghosts as MaskRows}
use Rattle.mtl.specs.Buffers.{Fills}
use Rattle.mtl.specs.Settling.{lengths, settle_answer}
use Rattle.mtl.specs.Tables.{lines_of}
use Rattle.bench_calls.proofs.repeats.settle_again.Given as goal

-- what one more call leaves, it would have left at first
abbrev pub invariant-loop : goal.invariant-loop
invariant-loop l =
    let T = lines_of l.table in
    let R = MaskRows.rows l.log in
    let a = settle_answer T R l.line l.row (lengths (length l.initial.sizes) (length l.initial.plan) (length l.initial.out)) in
    (s p o : List ℕ) → Fills T R l.line l.row a l.sizes s l.plan p l.out o → Fills T R l.line l.row a l.initial.sizes s l.initial.plan p l.initial.out o
