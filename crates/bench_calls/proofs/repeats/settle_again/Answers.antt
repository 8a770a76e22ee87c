use Rattle.std.proofs.Common.{ℕ, length, Result, sym, ◌∙◌, subst}
use Rattle.logs.specs.contracts.mask.MaskLogReadable.TheImpl.{ghosts as MaskRows}
use Rattle.mtl.specs.Buffers.{Fills}
use Rattle.mtl.specs.Settling.{lengths, settle_answer}
use Rattle.mtl.specs.Tables.{lines_of}
use Rattle.mtl.specs.declared.ruling.Settled.{Settled}
use Rattle.bench_calls.proofs.Refilled.{refilled}
use Rattle.bench_calls.proofs.repeats.settle_again.Goals as goal

pub loop-preserved : goal.loop-preserved
loop-preserved c =
    let T = lines_of c.args.table.now in
    let R = MaskRows.rows c.args.log.now in
    let n = c.args.line in
    let i = c.args.row in
    let l = c.loop in
    let last = c.settle.new in
    let a = settle_answer T R n i (lengths (length c.args.sizes.now) (length c.args.plan.now) (length c.args.out.now)) in
    let told = c.settle.ensures.answer ∙ (λ k. settle_answer T R n i (lengths (l.auto.sizes k) (l.auto.plan k) (l.auto.out k))) in
    let fills = subst (λ (x : Result Settled ℕ). Fills T R n i x l.sizes last.sizes l.plan last.plan l.out last.out) told c.settle.ensures.buffers in
    λ s p o more. l.invariant s p o (refilled T R n i a l.sizes last.sizes s l.plan last.plan p l.out last.out o fills more)

pub returns : goal.returns
returns c =
    let T = lines_of c.args.table.now in
    let R = MaskRows.rows c.args.log.now in
    let n = c.args.line in
    let i = c.args.row in
    let l = c.loop in
    let last = c.settle-2.new in
    let told = c.settle-2.ensures.answer ∙ (λ k. settle_answer T R n i (lengths (l.auto.sizes k) (l.auto.plan k) (l.auto.out k))) in
    let fills = subst (λ (x : Result Settled ℕ). Fills T R n i x l.sizes last.sizes l.plan last.plan l.out last.out) told c.settle-2.ensures.buffers in
    record {
      answer = told;
      buffers = subst (λ (x : Result Settled ℕ). Fills T R n i x c.args.sizes.now last.sizes c.args.plan.now last.plan c.args.out.now last.out) (sym told) (l.invariant last.sizes last.plan last.out fills);
    }
