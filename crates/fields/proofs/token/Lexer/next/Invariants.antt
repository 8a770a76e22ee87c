use Rattle.std.proofs.Common.{◌≡◌, ◌-◌, length}
use Rattle.fields.specs.Lexing.{left}
use Rattle.fields.proofs.token.Lexer.next.Given as goal

abbrev pub invariant-loop-byte : goal.invariant-loop-byte
invariant-loop-byte l =
    (left l.self ≡ left l.initial.self)
    × (l.self.text ≡ l.initial.self.text)
    × (l.self.line ≡ l.initial.self.line)
    × (l.self.field ≡ l.initial.self.field)

abbrev pub decreases-loop-byte : goal.decreases-loop-byte
decreases-loop-byte l = length l.self.text.now - l.self.at
