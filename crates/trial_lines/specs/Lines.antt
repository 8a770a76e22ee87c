-- The lines of a trial's table.
use Rattle.std.specs.Prelude.{ℕ, [], ◌∷◌, Option}
use Rattle.mtl.specs.Entering.{lines_after}
use Rattle.mtl.specs.Lines.{Rules}
use Rattle.mtl.specs.declared.line.Fields.{Fields}
use Rattle.mtl.specs.declared.line.Line.TheVariants.{Mark}
use Rattle.trial_lines.specs.declared.windowed.Windowed.{Windowed}

abbrev pub windowed : ℕ → ℕ → Option ℕ → Windowed
windowed letter from to = record { letter = letter; window = record { from = from; to = to } }

-- what the line is entered with: its window, and the two marks' lines
abbrev pub entered_with : Windowed → Fields
entered_with w = record { from = w.window.from; to = w.window.to; left = 0; right = 1 }

-- marks 0 and 1, and the line if it may stand after them
abbrev pub rules_with : Windowed → Rules
rules_with w = lines_after (Mark 0 ∷ Mark 1 ∷ []) w.letter (entered_with w)
