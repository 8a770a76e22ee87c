-- Rulings and claims.
pub use Rattle.mtl.specs.declared.ruling.Ruling.{Ruling}
pub use Rattle.mtl.specs.declared.ruling.Ruling.TheVariants.{Held as held, Broken as broken}
pub use Rattle.mtl.specs.declared.ruling.Claim.{Claim}
pub use Rattle.mtl.specs.declared.ruling.Node.{Node}
use Rattle.std.specs.Prelude.{ℕ, Bool, true, false, List, [], ◌∷◌, map, codes}

-- the ruling r of line n at row i
abbrev pub claim : ℕ → ℕ → Ruling → Claim
claim n i r = record { line = n; row = i; ruling = r }

abbrev pub Held : ℕ → ℕ → Claim
Held n i = claim n i held

abbrev pub Broken : ℕ → ℕ → Claim
Broken n i = claim n i broken

-- line n at each row of the list, ruled one way
abbrev pub each : Ruling → ℕ → List ℕ → List Claim
each r n ks = map (λ k. record { line = n; row = k; ruling = r }) ks

-- the row of the first child: j, in the rules that leave a choice of it
abbrev pub first_row : List Claim → ℕ
first_row [] = 0
first_row (c ∷ cs) = c.row

abbrev pub same_ruling : Ruling → Ruling → Bool
same_ruling held held = true
same_ruling held broken = false
same_ruling broken held = false
same_ruling broken broken = true

-- how a ruling is printed
abbrev pub ruling_word : Ruling → List ℕ
ruling_word held = codes "held"
ruling_word broken = codes "broken"
