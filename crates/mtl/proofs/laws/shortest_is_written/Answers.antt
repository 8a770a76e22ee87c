use Rattle.mtl.proofs.Whole.{least_law, filled_law, settling_law}
use Rattle.mtl.proofs.laws.shortest_is_written.Goals as goal

pub returns : goal.returns
returns c = record { least = least_law; filled = filled_law; settling = settling_law }
