-- Differences of times against a window; an absent end passes every "up to" and no "past".
use Rattle.std.specs.Prelude.{ℕ, ◌<◌, ◌≤◌, Bool, true, false, ◌&&◌, Some, None, Option, nat_le, nat_lt}
use Rattle.mtl.specs.Lines.{Window}

-- d ≤ to
abbrev pub UpTo : Option ℕ → ℕ → Type 0
UpTo (Some b) d = d ≤ b
UpTo None d = Unit {0}

-- d > to
abbrev pub Past : Option ℕ → ℕ → Type 0
Past (Some b) d = b < d
Past None d = ⊥

-- from ≤ d and d ≤ to
abbrev pub Inside : Window → ℕ → Type 0
Inside w d = (w.from ≤ d) × UpTo w.to d

-- the same as tests
abbrev pub up_to : Option ℕ → ℕ → Bool
up_to (Some b) d = nat_le d b
up_to None d = true

abbrev pub past : Option ℕ → ℕ → Bool
past (Some b) d = nat_lt b d
past None d = false

abbrev pub inside : Window → ℕ → Bool
inside w d = nat_le w.from d && up_to w.to d

-- the window from a difference on, without an end
abbrev pub wide : ℕ → Window
wide from = record { from = from; to = None }
