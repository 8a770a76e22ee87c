-- Certificates: trees in postfix order in which every node follows its rule.
use Rattle.std.specs.Prelude.{ℕ, List, [], ◌∷◌, ◌++◌, length}
use Rattle.mtl.specs.Rows.{Row}
use Rattle.mtl.specs.Lines.{Rules}
use Rattle.mtl.specs.Claims.{Claim, Node}
use Rattle.mtl.specs.Follows.{Follows}

-- the node of a claim that follows by a rule from these children
abbrev pub node_of : ℕ → Claim → List Claim → Node
node_of rule c kids = record { line = c.line; rule = rule; row = c.row; count = length kids }

-- a certificate of a claim: certificates of its children, then its node; and certificates of several claims in a row
mutual
  pub data Cert (T : Rules) (R : List Row) : Claim → List Node → Type 0 where
    node :
        {rule : ℕ} {c : Claim} {kids : List Claim} {ns : List Node} → Follows T R rule c kids → Certs T R kids ns →
        Cert T R c (ns ++ (node_of rule c kids ∷ []))

  pub data Certs (T : Rules) (R : List Row) : List Claim → List Node → Type 0 where
    none : Certs T R [] []
    more : {c : Claim} {cs : List Claim} {ns ms : List Node} → Cert T R c ns → Certs T R cs ms → Certs T R (c ∷ cs) (ns ++ ms)

-- the claim has a certificate
abbrev pub Certified : Rules → List Row → Claim → Type 0
Certified T R c = (ns : List Node) × Cert T R c ns
