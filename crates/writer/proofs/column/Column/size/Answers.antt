use Rattle.std.proofs.Common.{◌≡◌, get_or, ap, ◌∙◌, arith}
use Rattle.mtl.specs.Claims.{claim}
use Rattle.writer.specs.Choice.{place}
use Rattle.writer.proofs.Reading.{read_at}
use Rattle.writer.proofs.Sized.{sized_of}
use Rattle.writer.proofs.column.Column.size.Goals as goal
use Rattle.writer.proofs.column.Column.size.Goals.{in-Held, in-Broken}

pub returns : goal.returns
returns c =
    let k = claim 0 c.args.row c.args.ruling in
    let at : c.match-ruling.at ≡ place k =
    elim c.match-ruling.branch [
      | in-Held w ↦ rw w.in-Held.is (omega (arith, w.at-is))
      | in-Broken w ↦ rw w.in-Broken.is (omega (arith, w.at-is))
    ] in
    sized_of c.new.result _ c.new.ensures ∙ ap (λ n. get_or c.args.self.cells.now n 0) at ∙ read_at c.args.self.cells.now k c.requires
