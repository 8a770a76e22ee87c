use Rattle.std.proofs.Common.{◌≡◌, Err, sym, ap, ◌∙◌}
use Rattle.std.proofs.lemmas.Result.{err_from_is_err_and}
use Rattle.std.specs.Result.{result_ok}
use Rattle.writer.specs.declared.fault.SettleFault.{SettleFault}
use Rattle.writer.specs.declared.fault.SettleFault.TheVariants.{Open}
use Rattle.writer.proofs.Ends.{is_planned, ends_open, ends_long, ends_narrow, is_short, has_room, ends_written}
use Rattle.writer.proofs.Sizing.{open_err}
use Rattle.writer.proofs.settle.settle_rows.Goals as goal

pub returns-in_err-found : goal.returns-in_err-found
returns-in_err-found c =
    let p = err_from_is_err_and c.from_residual.result c.from_residual.ensures.1 in
    let q = open_err c.least.result Open _ (sym c.ok_or.ensures.value ∙ c.in_err-found.was) in
    let r : c.from_residual.result ≡ Err Open = p.1 ∙ ap (λ (f : SettleFault). Err f) (p.2 ∙ q.1) in
    let end = ends_open c.args.table.now c.args.rows c.args.line c.args.row c.requires.there c.args.sizes.now c.fill.new.sizes c.args.plan.now c.fill.new.plan c.args.out.now c.requires.room c.fill.ensures.cells c.fill.ensures.codes (sym c.least.ensures ∙ q.0) in
    rw r (record { answer = end.0; buffers = end.1 })

pub returns-then-found-gt4096 : goal.returns-then-found-gt4096
returns-then-found-gt4096 c =
    let end = ends_long c.args.table.now c.args.rows c.args.line c.args.row c.requires.there c.args.sizes.now c.fill.new.sizes c.args.plan.now c.fill.new.plan c.args.out.now c.requires.room c.fill.ensures.cells c.fill.ensures.codes c.in_ok-found.found (sym c.least.ensures ∙ c.ok_or.ensures.ok_part ∙ ap result_ok c.in_ok-found.was) c.if-found-gt4096.true in
    record { answer = end.0; buffers = end.1 }

pub returns-then-out-found : goal.returns-then-out-found
returns-then-out-found c =
    let end = ends_narrow c.args.table.now c.args.rows c.args.line c.args.row c.requires.there c.args.sizes.now c.fill.new.sizes c.args.plan.now c.fill.new.plan c.args.out.now c.requires.room c.fill.ensures.cells c.fill.ensures.codes c.in_ok-found.found (sym c.least.ensures ∙ c.ok_or.ensures.ok_part ∙ ap result_ok c.in_ok-found.was) c.if-found-gt4096.false c.if-out-found.true in
    record { answer = end.0; buffers = end.1 }

pub invariant_of-plan : goal.invariant_of-plan
invariant_of-plan c = record { filled = is_planned c.args.table.now c.args.rows c.args.line c.args.row c.requires.there c.args.sizes.now c.fill.new.sizes c.args.plan.now c.fill.new.plan c.args.out.now c.requires.room c.fill.ensures.cells c.fill.ensures.codes }

pub write-requires : goal.write-requires
write-requires c = record {
  short = is_short c.args.table.now c.args.rows c.args.line c.args.row c.requires.there c.args.sizes.now c.fill.new.sizes c.args.plan.now c.fill.new.plan c.args.out.now c.requires.room c.fill.ensures.cells c.fill.ensures.codes c.in_ok-found.found (sym c.least.ensures ∙ c.ok_or.ensures.ok_part ∙ ap result_ok c.in_ok-found.was) c.if-found-gt4096.false;
  room = has_room c.args.table.now c.args.rows c.args.line c.args.row c.requires.there c.args.sizes.now c.fill.new.sizes c.args.plan.now c.fill.new.plan c.args.out.now c.requires.room c.fill.ensures.cells c.fill.ensures.codes c.in_ok-found.found (sym c.least.ensures ∙ c.ok_or.ensures.ok_part ∙ ap result_ok c.in_ok-found.was) c.if-found-gt4096.false c.if-out-found.false;
}

pub returns : goal.returns
returns c =
    let end = ends_written c.args.table.now c.args.rows c.args.line c.args.row c.requires.there c.args.sizes.now c.fill.new.sizes c.args.plan.now c.fill.new.plan c.args.out.now c.requires.room c.fill.ensures.cells c.fill.ensures.codes c.in_ok-found.found (sym c.least.ensures ∙ c.ok_or.ensures.ok_part ∙ ap result_ok c.in_ok-found.was) c.if-found-gt4096.false c.if-out-found.false c.write.new.out c.write.ensures in
    record { answer = end.0; buffers = end.1 }
