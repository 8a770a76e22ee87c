use Rattle.writer.proofs.Making.{one_of}
use Rattle.writer.proofs.way.Run.at.Goals as goal

pub returns : goal.returns
returns c = λ q. one_of q c.args.line c.args.row
