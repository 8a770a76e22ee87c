use Rattle.cases.proofs.Within.{settled_within}
use Rattle.cases.proofs.case.Case.settle.Goals as goal

pub enter-requires : goal.enter-requires
enter-requires g c =
    let log = c.args.self.now.log in
    settled_within c.args.self.now.table _ _ _ _ _ c.in_ok-settled.settled (g.L.Readable.laws.rises log) (g.L.Readable.laws.within log)
    g.L.Readable.laws.small c.in_ok-settled.ensures.answer
