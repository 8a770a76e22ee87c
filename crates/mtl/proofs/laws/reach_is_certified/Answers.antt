use Rattle.mtl.proofs.Whole.{complete_law}
use Rattle.mtl.proofs.laws.reach_is_certified.Goals as goal

pub returns : goal.returns
returns c = complete_law
