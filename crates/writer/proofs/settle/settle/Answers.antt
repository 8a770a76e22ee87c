use Rattle.std.proofs.Common.{◌≡◌, length, sym, refl, ap, ◌∙◌, subst, arith}
use Rattle.mtl.specs.Buffers.{Fills}
use Rattle.mtl.specs.Rows.{NeverFalls}
use Rattle.mtl.specs.Settling.{lengths, settle_answer}
use Rattle.mtl.specs.Tables.{lines_of}
use Rattle.writer.specs.Told.{told}
use Rattle.writer.proofs.Asking.{no_line, no_row, no_room}
use Rattle.writer.proofs.Left.{refused, promised}
use Rattle.writer.proofs.settle.settle.Goals as goal

pub returns-then-line-len : goal.returns-then-line-len
returns-then-line-len g c =
    let T = lines_of c.args.table.now in
    let R = g.L.Readable.rows c.args.log.now in
    let ls = lengths (length c.args.sizes.now) (length c.args.plan.now) (length c.args.out.now) in
    let end = refused T c.args.table.now.formed R (g.L.Readable.laws.rises c.args.log.now) c.args.line c.args.row 21 ls c.args.sizes.now c.args.plan.now c.args.out.now refl (no_line T R c.args.line c.args.row ls (omega (arith, c.if-line-len.true, c.len.ensures))) in
    record { answer = end.0; buffers = end.1; says = end.2 }

pub returns-then-row-len : goal.returns-then-row-len
returns-then-row-len g c =
    let T = lines_of c.args.table.now in
    let R = g.L.Readable.rows c.args.log.now in
    let ls = lengths (length c.args.sizes.now) (length c.args.plan.now) (length c.args.out.now) in
    let end = refused T c.args.table.now.formed R (g.L.Readable.laws.rises c.args.log.now) c.args.line c.args.row 22 ls c.args.sizes.now c.args.plan.now c.args.out.now refl (no_row T R c.args.line c.args.row ls (omega (arith, c.if-line-len.false, c.len.ensures)) (omega (arith, c.if-row-len.true, c.len-2.ensures))) in
    record { answer = end.0; buffers = end.1; says = end.2 }

pub returns-then-min-lt8192 : goal.returns-then-min-lt8192
returns-then-min-lt8192 g c =
    let T = lines_of c.args.table.now in
    let R = g.L.Readable.rows c.args.log.now in
    let ls = lengths (length c.args.sizes.now) (length c.args.plan.now) (length c.args.out.now) in
    let end = refused T c.args.table.now.formed R (g.L.Readable.laws.rises c.args.log.now) c.args.line c.args.row 23 ls c.args.sizes.now c.args.plan.now c.args.out.now refl (no_room T R c.args.line c.args.row ls (omega (arith, c.if-line-len.false, c.len.ensures)) (omega (arith, c.if-row-len.false, c.len-2.ensures)) (omega (arith, c.if-min-lt8192.true, c.min.ensures))) in
    record { answer = end.0; buffers = end.1; says = end.2 }

pub settle_rows-requires : goal.settle_rows-requires
settle_rows-requires g c = record {
  there = ((omega (arith, c.if-line-len.false, c.len.ensures)), omega (arith, ap length (c.as_slice.ensures.value ∙ c.rows_of-all.ensures), c.if-row-len.false, c.len-2.ensures));
  room = (omega (arith, c.if-min-lt8192.false, c.min.ensures), omega (arith, c.if-min-lt8192.false, c.min.ensures));
}

pub returns : goal.returns
returns g c =
    let T = lines_of c.args.table.now in
    let R = g.L.Readable.rows c.args.log.now in
    let ls = lengths (length c.args.sizes.now) (length c.args.plan.now) (length c.args.out.now) in
    let same = c.as_slice.ensures.value ∙ c.rows_of-all.ensures in
    let a = subst (λ X. told c.settle_rows.result ≡ settle_answer T X c.args.line c.args.row ls) same c.settle_rows.ensures.answer in
    let f = subst (λ X. Fills T X c.args.line c.args.row (told c.settle_rows.result) c.args.sizes.now c.settle_rows.new.sizes c.args.plan.now c.settle_rows.new.plan c.args.out.now c.settle_rows.new.out) same c.settle_rows.ensures.buffers in
    record { answer = a; buffers = f; says = promised T c.args.table.now.formed R (g.L.Readable.laws.rises c.args.log.now) c.args.line c.args.row ls _ _ _ _ _ _ _ a f }

pub invariant_of-rows : goal.invariant_of-rows
invariant_of-rows g c =
    let same = c.as_slice.ensures.value ∙ c.rows_of-all.ensures in
    record { few = omega (arith, ap length same, g.L.Readable.laws.small, g.L.Readable.laws.within c.args.log.now); rising = subst NeverFalls (sym same) (g.L.Readable.laws.rises c.args.log.now) }
