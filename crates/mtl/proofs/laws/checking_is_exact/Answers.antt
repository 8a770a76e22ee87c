use Rattle.mtl.proofs.Whole.{exact_law}
use Rattle.mtl.proofs.laws.checking_is_exact.Goals as goal

pub returns : goal.returns
returns c = exact_law
