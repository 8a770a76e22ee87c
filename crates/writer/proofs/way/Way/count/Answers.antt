use Rattle.std.proofs.Common.{arith}
use Rattle.writer.proofs.Making.{length_kids}
use Rattle.writer.proofs.way.Way.count.Goals as goal

pub returns-clause-size : goal.returns-clause-size
returns-clause-size c = λ q. omega (arith, length_kids q c.args.self)
