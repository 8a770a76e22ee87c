use Rattle.cases.proofs.Within.{claim_within}
use Rattle.cases.proofs.case.Case.present.Goals as goal

pub enter-requires : goal.enter-requires
enter-requires g c =
    claim_within c.args.self.now.table _ _ _ _ c.in_ok-claim.claim (g.L.Readable.laws.within c.args.self.now.log) g.L.Readable.laws.small
    c.in_ok-claim.ensures.answer
