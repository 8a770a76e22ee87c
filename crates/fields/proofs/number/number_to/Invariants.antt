use Rattle.std.proofs.Common.{◌≡◌, drop}
use Rattle.std.specs.Str.{all_ascii_digits}
use Rattle.fields.specs.Numbers.{read_on}
use Rattle.fields.proofs.number.number_to.Given as goal

-- what is left gives what the whole field gives
abbrev pub invariant-loop-b : goal.invariant-loop-b
invariant-loop-b l = (read_on l.n (drop l.b-index l.field) ≡ read_on 0 l.field) × (all_ascii_digits (drop l.b-index l.field) ≡ all_ascii_digits l.field)
