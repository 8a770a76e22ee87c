-- How lines of fields are written as a text.
use Rattle.std.specs.Prelude.{ℕ, List, [], ◌∷◌, ◌++◌}

-- the fields that follow, each after a space, and the end of the line
abbrev pub line_end : List (List ℕ) → List ℕ
line_end [] = 10 ∷ []
line_end (w ∷ ws) = 32 ∷ (w ++ line_end ws)

-- a line: its fields with one space between, and a byte 10
abbrev pub line_text : List (List ℕ) → List ℕ
line_text [] = 10 ∷ []
line_text (w ∷ ws) = w ++ line_end ws

-- the lines, one after another
abbrev pub text_of : List (List (List ℕ)) → List ℕ
text_of [] = []
text_of (fs ∷ ls) = line_text fs ++ text_of ls
