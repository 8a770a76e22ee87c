-- How a text is cut into lines, and a line into fields.
use Rattle.std.specs.Prelude.{◌≡◌, ℕ, zero, suc, Bool, true, false, cond, not, ◌&&◌, List, [], ◌∷◌, ◌++◌, ◌==◌}
use Rattle.fields.specs.States.{is_none}

-- the lines from here on, each ended by a byte 10; w is what stands before, in the same line
abbrev pub lines_on : List ℕ → List ℕ → List (List ℕ)
lines_on w [] = []
lines_on w (b ∷ bs) = cond (b == 10) (w ∷ lines_on [] bs) (lines_on (w ++ b ∷ []) bs)

-- the lines of a text, without their ends
abbrev pub lines_of : List ℕ → List (List ℕ)
lines_of text = lines_on [] text

-- the fields from here on, cut at each space; w is what stands before, in the same field
abbrev pub fields_on : List ℕ → List ℕ → List (List ℕ)
fields_on w [] = w ∷ []
fields_on w (b ∷ bs) = cond (b == 32) (w ∷ fields_on [] bs) (fields_on (w ++ b ∷ []) bs)

-- the fields of a line
abbrev pub fields_of : List ℕ → List (List ℕ)
fields_of line = fields_on [] line

-- the fields, each after a space
abbrev pub spaced : List (List ℕ) → List ℕ
spaced [] = []
spaced (w ∷ ws) = 32 ∷ w ++ spaced ws

-- no byte is a space
abbrev pub spaceless : List ℕ → Bool
spaceless [] = true
spaceless (b ∷ bs) = not (b == 32) && spaceless bs

abbrev pub all_spaceless : List (List ℕ) → Bool
all_spaceless [] = true
all_spaceless (w ∷ ws) = spaceless w && all_spaceless ws

-- cutting a line into fields loses nothing: no field has a space, and with a space before each they are the line again
pub record Whole (line : List ℕ) : Type 0 where
  pub all : spaced (fields_of line) ≡ 32 ∷ line
  pub none : all_spaceless (fields_of line) ≡ true

-- exactly n fields, and none is empty
abbrev pub shaped : ℕ → List (List ℕ) → Bool
shaped zero [] = true
shaped zero (w ∷ ws) = false
shaped (suc n) [] = false
shaped (suc n) (w ∷ ws) = not (is_none w) && shaped n ws
