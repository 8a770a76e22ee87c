-- What a token says, and the tokens of a line's fields.
use Rattle.std.specs.Prelude.{ℕ, ◌+◌, Bool, true, false, cond, not, List, [], ◌∷◌, Some, None, Option}
use Rattle.fields.specs.States.{is_dash, is_none}
use Rattle.fields.specs.declared.token.Token.{Token}
use Rattle.fields.specs.declared.token.Token.TheVariants.{Word, Dash, LineEnd}

-- a token's bytes, without the text that it borrows
pub data Said : Type 0 where
  word : List ℕ → Said
  dash : Said
  line_end : Said

abbrev pub said : Token → Said
said (Word w) = word w.now
said Dash = dash
said LineEnd = line_end

-- the bytes of a word
abbrev pub word_in : Said → Option (List ℕ)
word_in (word w) = Some w
word_in dash = None
word_in line_end = None

-- a field that is one `-` is a dash, any other is a word
abbrev pub said_by : List ℕ → Said
said_by w = cond (is_dash w) dash (word w)

-- the first token where those fields are left of a line
abbrev pub first_of : List (List ℕ) → Said
first_of [] = line_end
first_of (w ∷ ws) = said_by w

abbrev pub rest_of : List (List ℕ) → List (List ℕ)
rest_of [] = []
rest_of (w ∷ ws) = ws

-- the number of the field after the next token; the line's end is given out again and again
abbrev pub field_after : List (List ℕ) → ℕ → ℕ
field_after [] n = n
field_after (w ∷ ws) n = n + 1

-- a dash, or a word with a byte at least
abbrev pub is_field : Said → Bool
is_field (word w) = not (is_none w)
is_field dash = true
is_field line_end = false

abbrev pub is_end : Said → Bool
is_end (word w) = false
is_end dash = false
is_end line_end = true
