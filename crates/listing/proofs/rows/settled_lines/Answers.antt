use Rattle.std.proofs.Common.{◌≡◌, ℕ, ◌+◌, ◌++◌, length, Result, sym, ap, ◌∙◌, add-one, rules}
use Rattle.std.proofs.lemmas.List.{append_assoc}
use Rattle.mtl.specs.declared.ruling.Settled.{Settled}
use Rattle.mtl.specs.Settling.{lengths, settle_answer}
use Rattle.mtl.specs.Tables.{lines_of}
use Rattle.logs.specs.contracts.mask.MaskLogReadable.TheImpl.{ghosts as MaskRows}
use Rattle.listing.specs.Rulings.{names_line, row_line, row_lines}
use Rattle.listing.proofs.rows.settled_lines.Goals as goal

-- one more row at the end of the lines so far
one_more : (f : ℕ → Result Settled ℕ) (k : ℕ) → names_line ++ row_lines f k ++ row_line k (f k) ≡ names_line ++ row_lines f (k + 1)
one_more f k = append_assoc names_line (row_lines f k) (row_line k (f k)) ∙ ap (λ n. names_line ++ row_lines f n) (sym (add-one k))

pub loop-row-preserved : goal.loop-row-preserved
loop-row-preserved c =
    let inv = c.loop-row.invariant in
    let row = c.loop-row.row in
    let line = c.args.line in
    let T = lines_of c.args.case.now.table in
    let R = MaskRows.rows c.args.case.now.log in
    let ls = lengths (length c.args.sizes.now) (length c.args.plan.now) (length c.args.out.now) in
    let step = c.settle-answer.ensures.step in
    let answer = step.answers.0 ∙ (λ i. settle_answer (inv.1 i) (inv.2 i) line row (lengths (inv.3 i) (inv.4 i) (inv.5 i))) in (
      c.in_ok-write.ensures.bytes ∙ (λ i. inv.0 i ++ row_line row (answer i)) ∙ one_more (λ i. settle_answer T R line i ls) row,
      step.same_table ∙ inv.1,
      step.rows ∙ inv.2,
      search rules,
      search rules,
      search rules,
    )
