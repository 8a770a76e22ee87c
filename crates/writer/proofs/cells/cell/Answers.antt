use Rattle.std.proofs.Common.{◌≡◌, ◌+◌, ◌*◌, get_or, ap, ◌∙◌, arith}
use Rattle.std.specs.Option.{unwrap_or}
use Rattle.mtl.specs.Claims.{claim}
use Rattle.writer.specs.Choice.{place}
use Rattle.writer.proofs.Reading.{read_at, read_none}
use Rattle.writer.proofs.cells.cell.Goals as goal
use Rattle.writer.proofs.cells.cell.Goals.{in-Held, in-Broken}

pub returns-then-row-ge128 : goal.returns-then-row-ge128
returns-then-row-ge128 c = read_none c.args.cells.now (claim c.args.line c.args.row c.args.ruling) c.if-row-ge128.true

pub returns : goal.returns
returns c =
    let k = claim c.args.line c.args.row c.args.ruling in
    let at : 256 * c.args.line + c.match-ruling.at ≡ place k =
    elim c.match-ruling.branch [
      | in-Held w ↦ rw w.in-Held.is (omega (arith, w.at-is))
      | in-Broken w ↦ rw w.in-Broken.is (omega (arith, w.at-is))
    ] in
    c.unwrap_or.ensures ∙ ap (λ o. unwrap_or o 0) c.copied.ensures ∙ c.get.ensures.lookup.4 (omega arith) 0 ∙ ap (λ n. get_or c.args.cells.now n 0) at ∙
    read_at c.args.cells.now k c.if-row-ge128.false
