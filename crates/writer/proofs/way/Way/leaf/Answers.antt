use Rattle.std.proofs.Common.{◌++◌, refl, ap₂}
use Rattle.writer.proofs.Making.{none_of}
use Rattle.writer.proofs.way.Way.leaf.Goals as goal

pub returns : goal.returns
returns c = record { ruled = refl; kids_are = λ q. ap₂ ◌++◌ (none_of q 0) (none_of q 0) }
