use Rattle.std.proofs.Common.{[], length, Err, refl, ap, ◌∙◌}
use Rattle.std.proofs.lemmas.Result.{err_from_is_err_and}
use Rattle.std.proofs.lemmas.Bool.{both_ways}
use Rattle.mtl.specs.Bytes.{nodes}
use Rattle.mtl.specs.Tables.{lines_of}
use Rattle.checker.specs.Told.{told, early}
use Rattle.checker.proofs.Answered.{by_size, promised}
use Rattle.checker.proofs.Late.{late}
use Rattle.checker.proofs.check.check.Goals as goal

pub returns-in_err-fits : goal.returns-in_err-fits
returns-in_err-fits g c =
    let e = err_from_is_err_and c.from_residual.result c.from_residual.ensures.1 in
    let is = ap told (e.1 ∙ ap Err e.2) ∙ by_size (lines_of c.args.table.now) (g.L.Readable.rows c.args.log.now) c.args.certificate.now (length c.args.stack.now) _ c.in_err-fits.ensures.answer in
    let p = promised (lines_of c.args.table.now) (g.L.Readable.rows c.args.log.now) c.args.certificate.now (length c.args.stack.now) c.args.table.now.formed c.from_residual.result is in
    record { answer = is; exact = p.0; says = p.1; untouched = λ _. refl }

pub returns : goal.returns
returns g c =
    let is = c.walk.ensures ∙ by_size (lines_of c.args.table.now) (g.L.Readable.rows c.args.log.now) c.args.certificate.now (length c.args.stack.now) _ c.in_ok-fits.ensures.answer in
    let p = promised (lines_of c.args.table.now) (g.L.Readable.rows c.args.log.now) c.args.certificate.now (length c.args.stack.now) c.args.table.now.formed _ is in
    record {
      answer = is;
      exact = p.0;
      says = p.1;
      untouched = λ h. absurd (both_ways _ (ap early c.walk.ensures ∙ late (lines_of c.args.table.now) (g.L.Readable.rows c.args.log.now) [] (nodes c.args.certificate.now) 0) h);
    }
