use Rattle.std.proofs.Common.{◌≡◌, ◌-◌}
use Rattle.fields.specs.Lexing.{left}
use Rattle.fields.specs.Cuts.{shaped, fields_of}
use Rattle.fields.proofs.shape.has_fields.Given as goal

abbrev pub invariant-loop : goal.invariant-loop
invariant-loop l = shaped (l.count - l.counter) (left l.lexer) ≡ shaped l.count (fields_of l.line)
