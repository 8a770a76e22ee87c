-- Rule tables as lists of lines.
pub use Rattle.mtl.specs.declared.line.Window.{Window}
pub use Rattle.mtl.specs.declared.line.Line.{Line}
pub use Rattle.mtl.specs.declared.line.Line.TheVariants.{Mark as mark, Not as neg, And as and, Or as or, Previous as previous, Next as next, Since as since, Until as until}
use Rattle.std.specs.Prelude.{◌≡◌, ℕ, ◌<◌, Bool, true, false, cond, ◌&&◌, List, length, Some, None, Option, nat_le, nat_lt, slice_index_or}

-- a rule table: its lines, from line 0 on
abbrev pub Rules : Type 0
Rules = List Line

abbrev pub line_at : Rules → ℕ → Line
line_at T n = slice_index_or T n (mark 0)

-- line n, if the table has it
abbrev pub line_in : Rules → ℕ → Option Line
line_in T n = cond (nat_lt n (length T)) (Some (line_at T n)) None

-- the end is absent or at least the start
abbrev pub ordered : ℕ → Option ℕ → Bool
ordered from None = true
ordered from (Some to) = nat_le from to

abbrev pub in_order : Window → Bool
in_order w = ordered w.from w.to

abbrev pub present : Option ℕ → Bool
present None = false
present (Some to) = true

-- a line may stand as line n: its mark is below 32, or its operands are earlier lines; its window is in order; an until has an end
abbrev pub fits : ℕ → Line → Bool
fits n (mark m) = nat_lt m 32
fits n (neg l) = nat_lt l n
fits n (and l r) = nat_lt l n && nat_lt r n
fits n (or l r) = nat_lt l n && nat_lt r n
fits n (previous w l) = nat_lt l n && in_order w
fits n (next w l) = nat_lt l n && in_order w
fits n (since w l r) = nat_lt l n && (nat_lt r n && in_order w)
fits n (until w l r) = nat_lt l n && (nat_lt r n && (in_order w && present w.to))

-- every line may stand where it stands
abbrev pub WellFormed : Rules → Type 0
WellFormed T = (n : ℕ) → n < length T → fits n (line_at T n) ≡ true
