use Rattle.listing.proofs.Cutting.{cut_at_first}
use Rattle.listing.proofs.laws.input_is_cut_at_first_empty_line.Goals as goal

pub returns : goal.returns
returns c = cut_at_first
