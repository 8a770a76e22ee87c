use Rattle.std.proofs.Common.{◌≡◌, ◌+◌}
use Rattle.std.specs.Iterator.Adapters.{enumerate_source, enumerate_count}
use Rattle.mtl.specs.Tables.{entered}
use Rattle.fields.specs.Cuts.{lines_of}
use Rattle.texts.specs.Outcomes.{read_lines}
use Rattle.texts.specs.Rules.{read_rule, read_rules}
use Rattle.texts.proofs.rules.read_rules.Given as goal

-- what is left gives the whole outcome
abbrev pub invariant-loop-i : goal.invariant-loop-i
invariant-loop-i l =
    read_lines read_rule (enumerate_count l.i-iterator + 1) (lines_of (enumerate_source l.i-iterator).rest.now) (entered l.draft) ≡ read_rules l.text (entered l.initial.draft)
