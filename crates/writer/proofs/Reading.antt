-- A cell as the code reads it.
use Rattle.std.proofs.Common.{◌≡◌, ℕ, ◌+◌, ◌*◌, ◌<◌, ◌≤◌, Bool, true, false, cond, T as Yes, ltb, List, get_or, sym, refl, ap, ◌∙◌, arith, ltb→lt, lt→ltb}
use native.Mathlib.Decide.{dec_lt}
use Rattle.mtl.specs.Claims.{claim}
use Rattle.mtl.specs.declared.ruling.Ruling.{Ruling}
use Rattle.mtl.specs.declared.ruling.Ruling.TheVariants.{Held as held, Broken as broken}
use Rattle.mtl.specs.declared.ruling.Claim.{Claim}
use Rattle.writer.specs.Choice.{cell_in, place}

guarded : (b : Bool) (x : ℕ) → Yes b → x ≡ cond b x 0
guarded true x t = refl
guarded false x t = absurd t

pub read_at : (cs : List ℕ) (c : Claim) → c.row < 128 → get_or cs (place c) 0 ≡ cell_in cs c
unfolding cell_in
read_at cs c h = guarded (ltb c.row 128) _ (lt→ltb c.row 128 h)

pub read_none : (cs : List ℕ) (c : Claim) → 128 ≤ c.row → 0 ≡ cell_in cs c
unfolding cell_in
read_none cs c h = go (ltb c.row 128) _ (λ t. let z = ltb→lt c.row 128 t in omega arith)
  where
    go : (b : Bool) (x : ℕ) → (Yes b → ⊥) → 0 ≡ cond b x 0
    go true x f = absurd (f tt)
    go false x f = refl

-- the cells of a line alone, as a table of one line
pub column_read : (n : ℕ) (s cells : List ℕ) → ((k : ℕ) → k < 256 → get_or cells k 0 ≡ get_or s (256 * n + k) 0) →
    (i : ℕ) (r : Ruling) → cell_in cells (claim 0 i r) ≡ cell_in s (claim n i r)
column_read n s cells same i r =
    elim (dec_lt i 128) [
      | yes h ↦ sym (read_at cells (claim 0 i r) h) ∙ at r h ∙ read_at s (claim n i r) h
      | no h ↦ sym (read_none cells (claim 0 i r) (omega arith)) ∙ read_none s (claim n i r) (omega arith)
    ]
  where
    at : (r : Ruling) → i < 128 → get_or cells (place (claim 0 i r)) 0 ≡ get_or s (place (claim n i r)) 0
    at held h = let e : 256 * 0 + (2 * i + 0) ≡ 2 * i + 0 = omega arith in ap (λ k. get_or cells k 0) e ∙ same (2 * i + 0) (omega arith)
    at broken h = let e : 256 * 0 + (2 * i + 1) ≡ 2 * i + 1 = omega arith in ap (λ k. get_or cells k 0) e ∙ same (2 * i + 1) (omega arith)
