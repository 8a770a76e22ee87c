use Rattle.std.proofs.Common.{◌≡◌, sym, subst, rules}
use Rattle.checker.specs.Told.{told}
use Rattle.c_api.specs.Meanings.{CheckFound}
use Rattle.c_api.specs.Readings.{telling, by_verdict}
use Rattle.c_api.proofs.Found.{check_found}
use Rattle.c_api.proofs.judging.checked.Goals as goal

pub returns-clause-says : goal.returns-clause-says
returns-clause-says c =
    let is : telling c.map_err.result ≡ by_verdict (told c.judged.result) = search rules in
    subst (CheckFound c.args.rules.now c.args.log.now c.args.certificate.now) (sym is)
    (check_found _ _ _ _ _ c.judged.result c.in_ok-table.ensures c.in_ok-log.ensures c.judged.ensures.says)
