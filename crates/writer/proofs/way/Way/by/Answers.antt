use Rattle.std.proofs.Common.{◌++◌, refl, ap}
use Rattle.writer.specs.Ways.{claims_of}
use Rattle.writer.proofs.Making.{none_of}
use Rattle.writer.proofs.way.Way.by.Goals as goal

pub returns : goal.returns
returns c = record { ruled = refl; kids_are = λ q. ap (λ xs. xs ++ claims_of q c.args.rest) (none_of q 0) }
