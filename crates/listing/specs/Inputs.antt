-- The two texts of an input.
use Rattle.std.specs.Prelude.{ℕ, ◌+◌, Bool, true, cond, ◌&&◌, List, [], ◌∷◌, take, drop, ◌==◌}

-- how many bytes stand before the first empty line, or in all where there is none; fresh says that a line begins here
abbrev pub rules_length : Bool → List ℕ → ℕ
rules_length fresh [] = 0
rules_length fresh (b ∷ bs) = cond (fresh && b == 10) 0 (1 + rules_length (b == 10) bs)

-- the rules end before the first empty line
abbrev pub rules_text : List ℕ → List ℕ
rules_text input = take (rules_length true input) input

-- the log is all that stands after that line
abbrev pub log_text : List ℕ → List ℕ
log_text input = drop (rules_length true input + 1) input
