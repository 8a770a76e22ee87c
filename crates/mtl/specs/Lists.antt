-- What holds of each element of a list, and of some.
use Rattle.std.specs.Prelude.{List, [], ◌∷◌}

-- P of each
abbrev pub AllOf {ℓ} : {A : Type ℓ} → (A → Type 0) → List A → Type 0
AllOf P [] = Unit {0}
AllOf P (c ∷ cs) = P c × AllOf P cs

-- P of some
pub data AnyOf {A : Type 0} (P : A → Type 0) : List A → Type 0 where
  here : {x : A} {xs : List A} → P x → AnyOf P (x ∷ xs)
  there : {x : A} {xs : List A} → AnyOf P xs → AnyOf P (x ∷ xs)
