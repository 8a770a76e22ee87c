-- The operands of a line that may stand as line n are earlier lines.
use Rattle.std.proofs.Common.{◌≡◌, ℕ, ◌<◌, Bool, true, ◌&&◌, ltb, length}
use Rattle.std.proofs.lemmas.Bool.{ltb-true, and_parts}
use Rattle.mtl.specs.Lines.{Line, mark, neg, and, or, previous, next, since, until, Rules, line_at, fits, WellFormed}

abbrev pub Earlier : ℕ → Line → Type 0
Earlier n (mark m) = Unit {0}
Earlier n (neg l) = l < n
Earlier n (and l r) = (l < n) × (r < n)
Earlier n (or l r) = (l < n) × (r < n)
Earlier n (previous w l) = l < n
Earlier n (next w l) = l < n
Earlier n (since w l r) = (l < n) × (r < n)
Earlier n (until w l r) = (l < n) × (r < n)

both_earlier : (l r n : ℕ) (b : Bool) → (ltb l n && (ltb r n && b)) ≡ true → (l < n) × (r < n)
both_earlier l r n b h =
    let p = and_parts (ltb l n) _ h in
    (ltb-true l n p.0, ltb-true r n (and_parts (ltb r n) b p.1).0)

earlier : (n : ℕ) (l : Line) → fits n l ≡ true → Earlier n l
earlier n (mark m) h = tt
earlier n (neg l) h = ltb-true l n h
earlier n (and l r) h = let p = and_parts (ltb l n) _ h in (ltb-true l n p.0, ltb-true r n p.1)
earlier n (or l r) h = let p = and_parts (ltb l n) _ h in (ltb-true l n p.0, ltb-true r n p.1)
earlier n (previous w l) h = ltb-true l n (and_parts (ltb l n) _ h).0
earlier n (next w l) h = ltb-true l n (and_parts (ltb l n) _ h).0
earlier n (since w l r) h = both_earlier l r n _ h
earlier n (until w l r) h = both_earlier l r n _ h

pub earlier_at : (T : Rules) → WellFormed T → (n : ℕ) → n < length T → Earlier n (line_at T n)
earlier_at T wf n h = earlier n (line_at T n) (wf n h)
