-- Sizes as they stand in the cells.
use Rattle.std.proofs.Common.{◌≡◌, ℕ, true, not, Some, None, Bool, Option, sym, refl, ap, ◌∙◌}
use Rattle.std.specs.Option.{is_some, MatchOption}
use Rattle.std.specs.NonZero.{non_zero_u16_get}
use Rattle.std.specs.declared.num.NonZeroU16.{NonZeroU16}
use Rattle.writer.specs.Choice.{sized}

pub sized_none : (o : Option NonZeroU16) (b : Bool) → is_some o ≡ not b → b ≡ true → sized o ≡ 0
sized_none None b e t = refl
sized_none (Some n) b e t = let z : is_some (Some n) ≡ not true = e ∙ ap not t in absurd (cc)

pub sized_of : (o : Option NonZeroU16) (n : ℕ) → MatchOption o (n ≡ 0) (λ x. non_zero_u16_get x ≡ n) → sized o ≡ n
sized_of None n h = sym h
sized_of (Some x) n h = h
