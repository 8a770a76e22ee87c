use Rattle.std.proofs.Common.{◌≡◌, rules, refl, nat_eq}
use borrow.Author.Tests.{tests}
use Rattle.std.proofs.lemmas.Iterator.{YieldsList-from_slice, YieldsList-from_range, YieldsList-from_map}
use Rattle.std.proofs.lemmas.Iterator.Consumers.{YieldsList-at, YieldsList-from_filter}
use Rattle.mtl.specs.declared.ruling.Claim.{Claim}
use Rattle.mtl.specs.Windows.{inside}
use Rattle.checker.specs.Parts.{between}
use Rattle.checker.proofs.Same.{pointwise_from_eq}
use Rattle.checker.proofs.view.View.rows_are.Goals as goal

pub returns : goal.returns
returns g c =
    pointwise_from_eq (λ x y. y ≡ x) _ nat_eq _ c.eq.ensures.ran
    (YieldsList-from_filter _ (λ k. inside c.args.window (between (g.L.Readable.rows c.args.self.log.now) c.args.side c.args.self.row k)) (YieldsList-from_range _ _ _ c.filter.ensures.source refl) c.filter.ensures.closure (λ x b q k. search (rules, tests)))
    (λ it e. YieldsList-at {t = c.map.result} e (YieldsList-from_map _ (λ (c : Claim). c.row) (YieldsList-from_slice c.args.children.now cc) c.map.ensures.closure (λ x r q k. search rules)))
    (λ x y. refl)
