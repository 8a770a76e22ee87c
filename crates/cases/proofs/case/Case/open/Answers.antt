use Rattle.std.proofs.Common.{rules}
use Rattle.cases.proofs.Whole.{lawful}
use Rattle.cases.proofs.case.Case.open.Goals as goal

pub returns-clause-lawful : goal.returns-clause-lawful
returns-clause-lawful g c = lawful _ (record { formed = c.args.table.formed; rising = g.L.Readable.laws.rises c.args.log; blank = search rules })
