use Rattle.mtl.proofs.Whole.{sound_law, one_ruling_law}
use Rattle.mtl.proofs.laws.certificates_are_true.Goals as goal

pub returns : goal.returns
returns c = record { sound = sound_law; single = one_ruling_law }
