-- What a lexer has left of its line, and what each of its steps does.
use Rattle.std.specs.Prelude.{◌≡◌, ℕ, ◌+◌, ◌-◌, List, [], ◌∷◌, take, drop, Some, None, Option}
use Rattle.fields.specs.Cuts.{fields_on}
use Rattle.fields.specs.Tokens.{Said, said, first_of, rest_of, field_after}
use Rattle.fields.specs.declared.state.State.{State}
use Rattle.fields.specs.declared.state.State.TheVariants.{Fresh, Inside, Dashed, Ended}
use Rattle.fields.specs.declared.token.Token.{Token}
use Rattle.fields.specs.declared.token.Lexer.{Lexer}

-- the fields that a lexer has not given out
abbrev pub left_at : State → ℕ → ℕ → List ℕ → List (List ℕ)
left_at Fresh from at s = fields_on (take (at - from) (drop from s)) (drop at s)
left_at Inside from at s = fields_on (take (at - from) (drop from s)) (drop at s)
left_at Dashed from at s = fields_on (take (at - from) (drop from s)) (drop at s)
left_at Ended from at s = []

abbrev pub left : Lexer → List (List ℕ)
left l = left_at l.state l.from l.at l.text.now

-- the lexer has given out t
pub record Gave (l m : Lexer) (t : Said) : Type 0 where
  pub token : t ≡ first_of (left l)
  pub rest : left m ≡ rest_of (left l)
  pub text : m.text ≡ l.text
  pub line : m.line ≡ l.line
  pub field : m.field ≡ field_after (left l) l.field

-- it has passed a byte, and given out nothing
pub record Passed (l m : Lexer) : Type 0 where
  pub rest : left m ≡ left l
  pub at : m.at ≡ l.at + 1
  pub text : m.text ≡ l.text
  pub line : m.line ≡ l.line
  pub field : m.field ≡ l.field

-- a field is being read
abbrev pub Open : State → Type 0
Open Fresh = Unit {0}
Open Inside = Unit {0}
Open Dashed = Unit {0}
Open Ended = ⊥

-- it has cut off the field w
pub record CutOff (l m : Lexer) (w : List ℕ) : Type 0 where
  pub word : w ≡ take (l.at - l.from) (drop l.from l.text.now)
  pub rest : left l ≡ w ∷ left m
  pub text : m.text ≡ l.text
  pub line : m.line ≡ l.line
  pub field : m.field ≡ l.field + 1

-- one step: a byte passed, or a token given out
abbrev pub Stepped : Lexer → Lexer → Option Token → Type 0
Stepped l m None = Passed l m
Stepped l m (Some t) = Gave l m (said t)
