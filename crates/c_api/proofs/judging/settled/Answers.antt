use Rattle.std.proofs.Common.{◌≡◌, length, sym, subst, rules}
use Rattle.writer.specs.Told.{told}
use Rattle.c_api.specs.Meanings.{SettleFound}
use Rattle.c_api.specs.Readings.{telling, by_number}
use Rattle.c_api.proofs.Found.{settle_found}
use Rattle.c_api.proofs.judging.settled.Goals as goal

pub returns-clause-says : goal.returns-clause-says
returns-clause-says c =
    let is : telling c.map_err.result ≡ by_number (told c.settle.result) = search rules in
    subst (SettleFound c.args.rules.now c.args.log.now c.args.line c.args.row (length c.args.out.now) c.settle.new.out) (sym is)
    (settle_found _ _ _ _ _ _ _ _ c.settle.result c.in_ok-table.ensures c.in_ok-log.ensures c.settle.ensures.says)
