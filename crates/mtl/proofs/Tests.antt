-- Tests and the statements that they decide.
use Rattle.std.proofs.Common.{◌≡◌, ℕ, ◌/◌, ◌%◌, ◌^◌, ◌≤◌, Bool, true, false, ◌&&◌, T as Yes, ltb, leb, ◌⊎◌, Some, None, Option, sym, subst, inl, inr, arith, le→leb, eqb→eq, ltb→lt, lt→ltb, leb→le}
use native.Mathlib.Decide.{dec_le}
use Rattle.std.proofs.Math.Facts.{yes_eqb}
use Rattle.mtl.specs.Rows.{Row, Stands, stands}
use Rattle.mtl.specs.Lines.{Window}
use Rattle.mtl.specs.Windows.{UpTo, Past, Inside, up_to, past, inside}

pub yes_true : {b : Bool} → b ≡ true → Yes b
yes_true e = subst Yes (sym e) tt

pub not_true : {b : Bool} → b ≡ false → Yes b → ⊥
not_true e h = subst Yes e h

pub both : (a b : Bool) → Yes a → Yes b → Yes (a && b)
both true b p q = q
both false b p q = p

pub fst_of : (a b : Bool) → Yes (a && b) → Yes a
fst_of true b h = tt
fst_of false b h = h

pub snd_of : (a b : Bool) → Yes (a && b) → Yes b
snd_of true b h = h
snd_of false b h = absurd h

pub stands_test : (r : Row) (m : ℕ) → Stands r m → Yes (stands r m)
stands_test r m h = both (ltb m 32) _ (lt→ltb m 32 h.0) (yes_eqb h.1)

pub test_stands : (r : Row) (m : ℕ) → Yes (stands r m) → Stands r m
test_stands r m h = (ltb→lt m 32 (fst_of _ _ h), eqb→eq ((r.marks / 2 ^ m) % 2) 1 (snd_of (ltb m 32) _ h))

-- windows

pub past_not : (o : Option ℕ) (d : ℕ) → UpTo o d → Past o d → ⊥
past_not (Some b) d u p = omega arith
past_not None d u p = p

pub past_up : (o : Option ℕ) (d e : ℕ) → d ≤ e → Past o d → Past o e
past_up (Some b) d e h p = omega arith
past_up None d e h p = p

pub up_or_past : (o : Option ℕ) (d : ℕ) → UpTo o d ⊎ Past o d
up_or_past (Some b) d = elim (dec_le d b) [ yes h ↦ inl h | no h ↦ inr (omega arith) ]
up_or_past None d = inl tt

pub up_to_test : (o : Option ℕ) (d : ℕ) → UpTo o d → Yes (up_to o d)
up_to_test (Some b) d u = le→leb d b u
up_to_test None d u = tt

pub test_up_to : (o : Option ℕ) (d : ℕ) → Yes (up_to o d) → UpTo o d
test_up_to (Some b) d u = leb→le d b u
test_up_to None d u = tt

pub past_test : (o : Option ℕ) (d : ℕ) → Past o d → Yes (past o d)
past_test (Some b) d h = lt→ltb b d h
past_test None d h = h

pub test_past : (o : Option ℕ) (d : ℕ) → Yes (past o d) → Past o d
test_past (Some b) d h = ltb→lt b d h
test_past None d h = h

pub inside_test : (w : Window) (d : ℕ) → Inside w d → Yes (inside w d)
inside_test w d h = both (leb w.from d) _ (le→leb w.from d h.0) (up_to_test w.to d h.1)

pub test_inside : (w : Window) (d : ℕ) → Yes (inside w d) → Inside w d
test_inside w d h = (leb→le w.from d (fst_of _ _ h), test_up_to w.to d (snd_of (leb w.from d) _ h))
