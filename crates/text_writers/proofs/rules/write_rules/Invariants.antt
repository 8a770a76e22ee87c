use Rattle.std.proofs.Common.{◌≡◌, ◌++◌, drop, string_bytes}
use Rattle.mtl.specs.Tables.{lines_of}
use Rattle.text_writers.specs.Writing.{text_of}
use Rattle.text_writers.specs.RuleTexts.{rules_from, rules_text}
use Rattle.text_writers.proofs.rules.write_rules.Given as goal

-- with the lines still to come it is the whole text
abbrev pub invariant-loop-number : goal.invariant-loop-number
invariant-loop-number l = string_bytes l.text ++ text_of (rules_from l.number (drop l.number (lines_of l.table))) ≡ rules_text (lines_of l.table)
