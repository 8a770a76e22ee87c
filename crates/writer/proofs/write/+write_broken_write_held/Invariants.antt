use Rattle.std.proofs.Common.{◌≡◌, ◌+◌, ◌-◌, ◌≤◌, take}
use Rattle.mtl.specs.Tables.{lines_of}
use Rattle.mtl.specs.declared.ruling.Ruling.TheVariants.{Held as held, Broken as broken}
use Rattle.writer.specs.Ways.{kids_of}
use Rattle.writer.specs.Written.{Wrote, all_bytes}
use Rattle.writer.proofs.Making.{before}
use Rattle.writer.proofs.write.+write_broken_write_held.Given as goal

abbrev pub decreases-write_broken : goal.decreases-write_broken
decreases-write_broken l = l.line

abbrev pub decreases-write_held : goal.decreases-write_held
decreases-write_held l = l.line

abbrev pub invariant-write_broken-loop-run : goal.invariant-write_broken-loop-run
invariant-write_broken-loop-run l =
    Wrote l.initial.out l.out l.initial.end l.end (all_bytes (lines_of l.plan.table.now) l.plan.rows.all.now (take (before l.way l.run-index) (kids_of broken l.way)))

abbrev pub invariant-write_broken-loop-j : goal.invariant-write_broken-loop-j
invariant-write_broken-loop-j l =
    (l.run.to ≤ l.run.from → l.j ≡ l.run.from) ×
    Wrote l.fn.out l.out l.fn.at l.end (all_bytes (lines_of l.plan.table.now) l.plan.rows.all.now (take (before l.way l.run-index + (l.j - l.run.from)) (kids_of broken l.way)))

abbrev pub invariant-write_held-loop-run : goal.invariant-write_held-loop-run
invariant-write_held-loop-run l =
    Wrote l.initial.out l.out l.initial.end l.end (all_bytes (lines_of l.plan.table.now) l.plan.rows.all.now (take (before l.way l.run-index) (kids_of held l.way)))

abbrev pub invariant-write_held-loop-j : goal.invariant-write_held-loop-j
invariant-write_held-loop-j l =
    (l.run.to ≤ l.run.from → l.j ≡ l.run.from) ×
    Wrote l.fn.out l.out l.fn.at l.end (all_bytes (lines_of l.plan.table.now) l.plan.rows.all.now (take (before l.way l.run-index + (l.j - l.run.from)) (kids_of held l.way)))
