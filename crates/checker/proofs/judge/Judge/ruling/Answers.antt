use Rattle.std.proofs.Common.{◌≡◌, true, false, ◌-◌, ◌<◌, ◌≤◌, [], ◌∷◌, ◌++◌, length, take, sym, ap, ◌∙◌, arith, rules}
use denote.Enum.Bare.{sameb, same_true, same_false}
use Rattle.proof_rules.specs.declared.standing.Standing.{Standing}
use Rattle.proof_rules.specs.contracts.standing.Standing.{the_type}
use Rattle.proof_rules.specs.Rule.{standing}
use Rattle.mtl.specs.Claims.{claim}
use Rattle.mtl.specs.Checking.{goes}
use Rattle.mtl.specs.Tables.{lines_of}
use Rattle.checker.proofs.Judged.{Read, no_line, other_kind, no_row, wrong_count, few_waiting, wrong_child, outside_interval, not_placed, goes_on}
use Rattle.checker.proofs.judge.Judge.ruling.Given as given
use Rattle.checker.proofs.judge.Judge.ruling.Goals as goal
use Rattle.checker.proofs.judge.Judge.ruling.Goals.{After-stand-standing, then-eq-2-via-then-eq-2, then-eq-2-via-else-eq-2+then-waiting-count, then-eq-3-via-then-eq-3, then-eq-3-via-else-eq-3+then-not-rows_fit}

-- what the tests of the standing say
is : (a b : Standing) → true ≡ sameb the_type a b → a ≡ b
is a b e = same_true the_type (search rules) a b (sym e)

is_not : (a b : Standing) → false ≡ sameb the_type a b → a ≡ b → ⊥
is_not a b e = same_false the_type a b (sym e)

read : (g : given.Over) (c : After-stand-standing g) → Read (lines_of c.args.self.now.table.now) (g.L.Readable.rows c.args.self.now.log.now) c.args.node c.from.result c.stand-standing.result
read g c =
    record {
      line = c.in-Some.line;
      found = c.in-Some.ensures;
      parted = c.from.ensures;
      stood = c.stand-standing.ensures ∙ ap (standing c.from.result.kind c.args.node.rule c.args.node.count) c.interval.ensures;
    }

pub returns-in_default-clause-step : goal.returns-in_default-clause-step
returns-in_default-clause-step g c = no_line (lines_of c.args.self.now.table.now) (g.L.Readable.rows c.args.self.now.log.now) c.args.waiting.now c.args.node (sym c.in_default.ensures)

pub returns-then-eq-clause-step : goal.returns-then-eq-clause-step
returns-then-eq-clause-step g c = other_kind c.args.waiting.now (read g (goal.at.returns-then-eq-clause-step g c).After-stand-standing) (is _ _ c.if-eq.ensures)

pub returns-then-node-len-clause-step : goal.returns-then-node-len-clause-step
returns-then-node-len-clause-step g c =
    let over : length (g.L.Readable.rows c.args.self.now.log.now) ≤ c.args.node.row = omega arith in
    no_row c.args.waiting.now (read g (goal.at.returns-then-node-len-clause-step g c).After-stand-standing) (is_not _ _ c.if-eq.ensures) over

pub returns-then-eq-2-clause-step : goal.returns-then-eq-2-clause-step
returns-then-eq-2-clause-step g c =
    let row : c.args.node.row < length (g.L.Readable.rows c.args.self.now.log.now) = omega arith in
    elim c.then-eq-2.branch [
      | then-eq-2-via-then-eq-2 w ↦
          wrong_count c.args.waiting.now (read g (goal.at.returns-then-eq-2-clause-step g c).After-stand-standing) (is _ _ w.if-eq-2.ensures) row
      | then-eq-2-via-else-eq-2+then-waiting-count w ↦
          few_waiting c.args.waiting.now (read g (goal.at.returns-then-eq-2-clause-step g c).After-stand-standing) (is_not _ _ c.if-eq.ensures) row w.if-waiting-count.true
    ]

pub returns-then-not-lines_fit-clause-step : goal.returns-then-not-lines_fit-clause-step
returns-then-not-lines_fit-clause-step g c =
    let row : c.args.node.row < length (g.L.Readable.rows c.args.self.now.log.now) = omega arith in
    let many : c.args.node.count ≤ length c.args.waiting.now = omega arith in
    wrong_child c.args.waiting.now (read g (goal.at.returns-then-not-lines_fit-clause-step g c).After-stand-standing) (is_not _ _ c.if-eq.ensures) (is_not _ _ c.if-eq-2.ensures) row many (sym c.lines_fit.ensures ∙ c.if-not-lines_fit.true)

pub returns-then-eq-3-clause-step : goal.returns-then-eq-3-clause-step
returns-then-eq-3-clause-step g c =
    let row : c.args.node.row < length (g.L.Readable.rows c.args.self.now.log.now) = omega arith in
    let many : c.args.node.count ≤ length c.args.waiting.now = omega arith in
    elim c.then-eq-3.branch [
      | then-eq-3-via-then-eq-3 w ↦
          outside_interval c.args.waiting.now (read g (goal.at.returns-then-eq-3-clause-step g c).After-stand-standing) (is_not _ _ c.if-eq.ensures) (is_not _ _ c.if-eq-2.ensures) row many (sym c.lines_fit.ensures ∙ c.if-not-lines_fit.false) (is _ _ w.if-eq-3.ensures)
      | then-eq-3-via-else-eq-3+then-not-rows_fit w ↦
          not_placed c.args.waiting.now (read g (goal.at.returns-then-eq-3-clause-step g c).After-stand-standing) (is_not _ _ c.if-eq.ensures) (is_not _ _ c.if-eq-2.ensures) row many (sym c.lines_fit.ensures ∙ c.if-not-lines_fit.false) (sym w.rows_fit.ensures ∙ w.if-not-rows_fit.true)
    ]

pub returns-clause-step : goal.returns-clause-step
returns-clause-step g c =
    let row : c.args.node.row < length (g.L.Readable.rows c.args.self.now.log.now) = omega arith in
    let many : c.args.node.count ≤ length c.args.waiting.now = omega arith in
    ap (λ r. goes (take (length c.args.waiting.now - c.args.node.count) c.args.waiting.now ++ (claim c.args.node.line c.args.node.row r ∷ []))) c.ruling_of.ensures
    ∙ goes_on c.args.waiting.now (read g (goal.at.returns-clause-step g c).After-stand-standing) (is_not _ _ c.if-eq.ensures) (is_not _ _ c.if-eq-2.ensures) row many (sym c.lines_fit.ensures ∙ c.if-not-lines_fit.false)
    (is_not _ _ c.if-eq-3.ensures) (sym c.rows_fit.ensures ∙ c.if-not-rows_fit.false)
