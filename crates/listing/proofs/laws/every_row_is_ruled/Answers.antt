use Rattle.listing.proofs.Ruled.{every_row}
use Rattle.listing.proofs.laws.every_row_is_ruled.Goals as goal

pub returns : goal.returns
returns c = every_row
