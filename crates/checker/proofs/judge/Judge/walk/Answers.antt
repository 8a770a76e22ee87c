use Rattle.std.proofs.Common.{◌≤◌, length, take, sym, refl, ◌∙◌, arith, length-drop, length-set, length-take, length-take-le, ltb-false, ltb-true}
use Rattle.std.proofs.lemmas.Result.{err_from_is_err_and}
use Rattle.mtl.specs.Tables.{lines_of}
use Rattle.checker.proofs.Nodes.{wrong, right, at_end}
use Rattle.checker.proofs.judge.Judge.walk.Goals as goal

pub returns-in_err-ruling : goal.returns-in_err-ruling
returns-in_err-ruling g c =
    let long : 6 ≤ length c.loop-left.left.now = omega (arith, ltb-false) in
    let p = err_from_is_err_and c.from_residual.result c.from_residual.ensures.1 in
    rw (p.1, p.2) (
    sym (wrong (lines_of c.args.self.now.table.now) (g.L.Readable.rows c.args.self.now.log.now) c.loop-left.left.now c.loop-left.at c.loop-left.top c.loop-left.stack
    _
    long (refl, refl, c.from_be_bytes.ensures, c.from_be_bytes-in-len6-up.ensures) _ c.in_err-ruling.ensures.step c.in_err-ruling.ensures.place)
    ∙ c.loop-left.invariant.0)

pub loop-left-preserved : goal.loop-left-preserved
loop-left-preserved g c =
    let long : 6 ≤ length c.loop-left.left.now = omega (arith, ltb-false) in
    let fits : c.loop-left.top ≤ length c.loop-left.stack = omega arith in
    let full = length-take-le c.loop-left.top c.loop-left.stack fits in
    let few : c.from_be_bytes-in-len6-up.result ≤ c.loop-left.top = omega (arith, c.in_ok-ruling.ensures.place) in (
      sym (right (lines_of c.args.self.now.table.now) (g.L.Readable.rows c.args.self.now.log.now) c.loop-left.left.now c.loop-left.at c.loop-left.top c.loop-left.stack
          _
          long (refl, refl, c.from_be_bytes.ensures, c.from_be_bytes-in-len6-up.ensures) c.in_ok-ruling.ruling fits few (omega arith) c.in_ok-ruling.ensures.step)
          ∙ c.loop-left.invariant.0,
      omega arith,
      simp (length-take, length-drop) (omega arith),
      simp length-set c.loop-left.invariant.3,
    )

pub returns : goal.returns
returns g c =
    c.only.ensures
    ∙ (sym (at_end (lines_of c.args.self.now.table.now) (g.L.Readable.rows c.args.self.now.log.now) c.loop-left.left.now c.loop-left.at (take c.loop-left.top c.loop-left.stack) (omega (arith, ltb-true)))
    ∙ c.loop-left.invariant.0)
