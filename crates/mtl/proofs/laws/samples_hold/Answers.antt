use Rattle.mtl.proofs.Worked.{all_samples}
use Rattle.mtl.proofs.laws.samples_hold.Goals as goal

pub returns : goal.returns
returns c = all_samples
