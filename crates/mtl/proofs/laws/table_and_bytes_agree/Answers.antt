use Rattle.mtl.proofs.Whole.{listed_law, bytes_law}
use Rattle.mtl.proofs.laws.table_and_bytes_agree.Goals as goal

pub returns : goal.returns
returns c = record { listed = listed_law; bytes = bytes_law }
