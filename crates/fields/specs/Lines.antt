-- The lines of a text.
use Rattle.std.specs.Prelude.{◌≡◌, ℕ, ◌<◌, List, [], ◌∷◌, length, Some, None, Option}
use Rattle.fields.specs.Cuts.{lines_of}
use Rattle.fields.specs.declared.first.FirstLine.{FirstLine}

-- the first line of a text is cut off, if there is one
abbrev pub CutsFirst : Option FirstLine → List ℕ → Type 0
CutsFirst None text = lines_of text ≡ []
CutsFirst (Some f) text = (lines_of text ≡ f.line.now ∷ lines_of f.rest.now) × (length f.rest.now < length text)
