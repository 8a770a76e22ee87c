use Rattle.std.proofs.Common.{◌≡◌, ◌∙◌, true, false, rules}
use Rattle.std.proofs.lemmas.Iterator.{first_from_Range}
use Rattle.listing.specs.Laws.{empty_line_at}
use Rattle.listing.proofs.Cutting.{found}
use Rattle.listing.proofs.split.rules_length.Goals as goal

pub returns-clause-value : goal.returns-clause-value
returns-clause-value c =
    let s = c.args.input.now in
    c.unwrap_or.ensures
    ∙ found s c.find.result
    (first_from_Range _ _ _ _ (λ k. empty_line_at true s k ≡ true) (λ k. empty_line_at true s k ≡ false) c.find.ensures.ran (λ x q k. search rules) (λ x q k. (search rules, search rules)))
