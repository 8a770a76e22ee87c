use Rattle.std.proofs.Common.{◌≡◌, suc, ◌+◌, ◌*◌, length, get_or, take, sym, ap, ◌∙◌, ap₂, subst, ◌<◌, arith}
use Rattle.std.proofs.lemmas.List.{length-take-le}
use Rattle.mtl.specs.Claims.{Held, Broken}
use Rattle.mtl.specs.Forms.{forms}
use Rattle.mtl.specs.declared.line.Line.TheVariants.{Mark}
use Rattle.mtl.specs.declared.ruling.Ruling.TheVariants.{Held as held, Broken as broken}
use Rattle.writer.specs.Choice.{cell_in, of_forms}
use Rattle.writer.specs.Tables.{filled, size_at, code_at}
use Rattle.writer.proofs.Right.{absent, best_in, found}
use Rattle.writer.proofs.Stored.{filled_none, filled_over, filled_two, filled_on, filled_blank, filled_take}
use Rattle.mtl.specs.Tables.{lines_of}
use Rattle.writer.proofs.fill.fill.Goals as goal

pub loop-number-init : goal.loop-number-init
loop-number-init c = (filled_none _ _, filled_none _ _)

pub loop-row-init : goal.loop-row-init
loop-row-init c =
    let z : 256 * c.loop-number.number + 0 ≡ 256 * c.loop-number.number = omega arith in
    (filled_on _ _ _ _ _ z c.loop-number.invariant.0, filled_on _ _ _ _ _ z c.loop-number.invariant.1)

pub loop-row-preserved : goal.loop-row-preserved
loop-row-preserved c =
    let T = lines_of c.args.table.now in
    let R = c.args.rows.all.now in
    let wf = c.args.table.now.formed in
    let few = c.args.rows.few in
    let n = c.loop-number.number in
    let i = c.loop-row.row in
    let front = take 8192 c.loop-row.sizes in
    let g = cell_in front in
    let p = 256 * n + 2 * i in
    let there : n < length T = subst (λ ls. n < length ls) c.lines-lines.ensures c.loop-number-test.true in
    let so_far = filled_take (size_at T R) p 8192 c.loop-row.sizes c.loop-number.sizes c.loop-row.invariant.0 (omega arith) in
    let h = found T wf R few (Held n i) p p front (take 8192 c.loop-number.sizes) _ (omega arith) (omega arith) (omega arith) so_far (c.best.ensures ∙ ap (λ ls. of_forms g held (forms R i (get_or ls n (Mark 0)))) c.lines-lines.ensures ∙ sym (best_in g T R n i held there c.loop-row-test.true)) in
    let b = found T wf R few (Broken n i) p (suc p) front (take 8192 c.loop-number.sizes) _ (omega arith) (omega arith) (omega arith) so_far (c.best-in-loop-row.ensures ∙ ap (λ ls. of_forms g broken (forms R i (get_or ls n (Mark 0)))) c.lines-lines.ensures ∙ sym (best_in g T R n i broken there c.loop-row-test.true)) in (
      c.put.ensures ∙ filled_two (size_at T R) p _ _ _ c.loop-row.sizes c.loop-number.sizes c.loop-row.invariant.0 (omega arith) (omega arith) (c.entries-held.ensures.0 ∙ h.0) (c.entries-broken.ensures.0 ∙ b.0),
      c.put-in-loop-row.ensures ∙ filled_two (code_at T R) p _ _ _ c.loop-row.plan c.loop-number.plan c.loop-row.invariant.1 (omega arith) (omega arith) (c.entries-held.ensures.1 ∙ h.1) (c.entries-broken.ensures.1 ∙ b.1),
    )

pub loop-number-preserved : goal.loop-number-preserved
loop-number-preserved c =
    let T = lines_of c.args.table.now in
    let R = c.args.rows.all.now in
    let n = c.loop-number.number in
    let few = c.args.rows.few in
    let i : c.loop-row.row ≡ length R = omega arith in
    let z : 256 * n + 256 ≡ 256 * (n + 1) = omega arith in (
      c.blank.ensures ∙
          filled_blank (size_at T R) (256 * n + 2 * length R) (256 * n + 256) c.loop-row.sizes c.loop-number.sizes (c.loop-row.invariant.0 ∙ ap (λ k. filled (size_at T R) (256 * n + 2 * k) c.loop-number.sizes) i) (omega arith) (λ k p q. (absent T c.args.table.now.formed R k (λ l. omega arith)).0) ∙
          ap₂ (filled (size_at T R)) z c.loop-number.invariant.0 ∙ filled_over _ _ _ c.args.sizes.now (omega arith),
      c.blank-in-loop-number.ensures ∙
          filled_blank (code_at T R) (256 * n + 2 * length R) (256 * n + 256) c.loop-row.plan c.loop-number.plan (c.loop-row.invariant.1 ∙ ap (λ k. filled (code_at T R) (256 * n + 2 * k) c.loop-number.plan) i) (omega arith) (λ k p q. (absent T c.args.table.now.formed R k (λ l. omega arith)).1) ∙
          ap₂ (filled (code_at T R)) z c.loop-number.invariant.1 ∙ filled_over _ _ _ c.args.plan.now (omega arith),
    )

pub returns : goal.returns
returns c =
    let T = lines_of c.args.table.now in
    let R = c.args.rows.all.now in
    let few = c.args.table.now.few in
    let n : c.loop-number.number ≡ c.len-end.result = omega (arith, ap length c.lines-lines.ensures, c.len-end.ensures) in
    let end = c.len-end.ensures in
    record {
      cells = c.blank-2.ensures ∙ filled_blank (size_at T R) (256 * c.len-end.result) 8192 c.loop-number.sizes c.args.sizes.now (c.loop-number.invariant.0 ∙ ap (λ k. filled (size_at T R) (256 * k) c.args.sizes.now) n) (omega arith) (λ k p q. (absent T c.args.table.now.formed R k (λ l. absurd (omega arith))).0);
      codes = c.blank-3.ensures ∙ filled_blank (code_at T R) (256 * c.len-end.result) 8192 c.loop-number.plan c.args.plan.now (c.loop-number.invariant.1 ∙ ap (λ k. filled (code_at T R) (256 * k) c.args.plan.now) n) (omega arith) (λ k p q. (absent T c.args.table.now.formed R k (λ l. absurd (omega arith))).1);
    }

pub slice_bounds-front-end-in-loop-row : goal.slice_bounds-front-end-in-loop-row
slice_bounds-front-end-in-loop-row c = sym (length-take-le 8192 c.loop-row.sizes (omega arith))

pub best-requires : goal.best-requires
best-requires c = (c.loop-row-test.true, length-take-le 8192 c.loop-row.sizes (omega arith))

pub best-requires-in-loop-row : goal.best-requires-in-loop-row
best-requires-in-loop-row c = (c.loop-row-test.true, length-take-le 8192 c.loop-row.sizes (omega arith))
