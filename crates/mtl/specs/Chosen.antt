-- The certificate that is chosen among all, as a relation that gives no recipe.
use Rattle.std.specs.Prelude.{◌≡◌, ℕ, ◌<◌, ◌≤◌, ◌⊎◌, List, [], ◌∷◌, ◌++◌, length}
use Rattle.mtl.specs.Rows.{Row}
use Rattle.mtl.specs.Lines.{Rules}
use Rattle.mtl.specs.Claims.{Claim, Node, first_row}
use Rattle.mtl.specs.Follows.{Follows}
use Rattle.mtl.specs.Certificates.{node_of, Certs}

-- the lower rule, then the lower j
abbrev pub Ahead : ℕ → List Claim → ℕ → List Claim → Type 0
Ahead rule kids rule' kids' = (rule < rule') ⊎ ((rule ≡ rule') × (first_row kids ≤ first_row kids'))

-- no certificate of the claim is smaller than this one, of its size none has a lower rule or then a lower j, and so in each child
mutual
  pub data Chosen (T : Rules) (R : List Row) : Claim → List Node → Type 0 where
    chosen :
        {rule : ℕ} {c : Claim} {kids : List Claim} {ns : List Node} → Follows T R rule c kids → ChosenAll T R kids ns →
        ((rule' : ℕ) (kids' : List Claim) (ns' : List Node) → Follows T R rule' c kids' → Certs T R kids' ns' →
        (length ns < length ns') ⊎ ((length ns ≡ length ns') × Ahead rule kids rule' kids')) →
        Chosen T R c (ns ++ (node_of rule c kids ∷ []))

  pub data ChosenAll (T : Rules) (R : List Row) : List Claim → List Node → Type 0 where
    chosen_none : ChosenAll T R [] []
    chosen_more :
        {c : Claim} {cs : List Claim} {ns ms : List Node} → Chosen T R c ns → ChosenAll T R cs ms → ChosenAll T R (c ∷ cs) (ns ++ ms)
