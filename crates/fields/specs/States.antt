-- What the lexer's state says of the field so far.
use Rattle.std.specs.Prelude.{ℕ, Bool, true, false, not, List, [], ◌∷◌, ◌==◌}
use Rattle.fields.specs.declared.state.State.{State}
use Rattle.fields.specs.declared.state.State.TheVariants.{Fresh, Inside, Dashed, Ended}

-- the field `-`
abbrev pub is_dash : List ℕ → Bool
is_dash [] = false
is_dash (b ∷ []) = b == 45
is_dash (b ∷ c ∷ cs) = false

abbrev pub is_none : List ℕ → Bool
is_none [] = true
is_none (b ∷ bs) = false

-- neither empty nor `-`
abbrev pub is_word : List ℕ → Bool
is_word [] = false
is_word (b ∷ []) = not (b == 45)
is_word (b ∷ c ∷ cs) = true

-- the bytes of the field so far are as the state says
abbrev pub agrees : State → List ℕ → Bool
agrees Fresh w = is_none w
agrees Inside w = is_word w
agrees Dashed w = is_dash w
agrees Ended w = true

-- how far the number of the field may be past the place
abbrev pub past : State → ℕ
past Fresh = 1
past Inside = 1
past Dashed = 1
past Ended = 2
