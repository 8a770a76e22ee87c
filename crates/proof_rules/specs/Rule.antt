-- The rules by their numbers.
use Rattle.std.specs.Prelude.{ℕ, Bool, true, false, cond, not, ◌&&◌, ◌||◌, is_some, ◌==◌, nat_le, nat_lt}
use Rattle.std.specs.Option.{option_map_or}
use Rattle.mtl.specs.declared.line.Window.{Window}
use Rattle.mtl.specs.declared.line.Kind.{Kind}
use Rattle.mtl.specs.declared.line.Kind.TheVariants.{Mark, Not, And, Or, Previous, Next, Since, Until}
use Rattle.mtl.specs.declared.ruling.Ruling.{Ruling}
use Rattle.mtl.specs.declared.ruling.Ruling.TheVariants.{Held, Broken}
use Rattle.mtl.specs.Windows.{inside, past}
use Rattle.proof_rules.specs.declared.standing.Interval.{Interval}
use Rattle.proof_rules.specs.declared.standing.Standing.{Standing}
use Rattle.proof_rules.specs.declared.standing.Standing.TheVariants.{OtherKind, WrongCount, OutsideInterval, Fits}

abbrev pub within : ℕ → ℕ → ℕ → Bool
within a b n = nat_le a n && nat_le n b

-- rule n is for lines of this kind
abbrev pub of_kind : Kind → ℕ → Bool
of_kind Mark n = within 1 2 n
of_kind Not n = within 3 4 n
of_kind And n = within 5 7 n
of_kind Or n = within 8 10 n
of_kind Previous n = within 11 15 n
of_kind Next n = within 16 19 n
of_kind Since n = within 20 23 n
of_kind Until n = within 24 26 n

-- rule n takes so many children
abbrev pub counted : ℕ → ℕ → Bool
counted n count =
    cond (within 1 2 n || within 13 15 n || within 18 19 n || n == 23) (count == 0)
    (cond (n == 5 || n == 10) (count == 2)
    (cond (within 20 21 n || within 24 25 n) (nat_le 1 count)
    (cond (n == 22 || n == 26) true (count == 1))))

-- there is a row beside; its difference is inside the window, below its start, past its end
abbrev pub gap_there : Interval → Bool
gap_there v = is_some v.gap

abbrev pub gap_inside : Interval → Bool
gap_inside v = option_map_or (inside v.window) v.gap false

abbrev pub gap_short : Interval → Bool
gap_short v = option_map_or (λ d. nat_lt d v.window.from) v.gap false

abbrev pub gap_long : Interval → Bool
gap_long v = option_map_or (past v.window.to) v.gap false

-- what rule n asks of the interval to the row beside
abbrev pub timed : ℕ → Interval → Bool
timed n v =
    cond (n == 11 || n == 16) (gap_inside v)
    (cond (n == 12) (gap_there v)
    (cond (n == 13 || n == 18) (gap_short v)
    (cond (n == 14 || n == 19) (gap_long v)
    (cond (n == 15) (not (gap_there v)) true))))

abbrev pub standing : Kind → ℕ → ℕ → Interval → Standing
standing k n count v =
    cond (of_kind k n) (cond (counted n count) (cond (timed n v) Fits OutsideInterval) WrongCount) OtherKind

-- rule n rules its line held, or broken
abbrev pub ruled : ℕ → Ruling
ruled n =
    cond (n == 1 || n == 3 || n == 5 || within 8 9 n || n == 11 || n == 16 || n == 20 || n == 24) Held Broken
