use Rattle.std.proofs.Common.{◌≡◌, ◌++◌, length, string_bytes}
use Rattle.mtl.specs.Settling.{lengths, settle_answer}
use Rattle.mtl.specs.Tables.{lines_of}
use Rattle.logs.specs.contracts.mask.MaskLogReadable.TheImpl.{ghosts as MaskRows}
use Rattle.listing.specs.Rulings.{names_line, row_lines}
use Rattle.listing.proofs.rows.settled_lines.Given as goal

-- the lines so far; the case keeps its table and rows, and the buffers their lengths
abbrev pub invariant-loop-row : goal.invariant-loop-row
invariant-loop-row l =
    let T = lines_of l.initial.case.table in
    let R = MaskRows.rows l.initial.case.log in
    let ls = lengths (length l.initial.sizes) (length l.initial.plan) (length l.initial.out) in
    (string_bytes l.text ≡ names_line ++ row_lines (λ i. settle_answer T R l.line i ls) l.row)
    × (lines_of l.case.table ≡ T)
    × (MaskRows.rows l.case.log ≡ R)
    × (length l.sizes ≡ length l.initial.sizes)
    × (length l.plan ≡ length l.initial.plan)
    × (length l.out ≡ length l.initial.out)
