-- The certificate that is written for a claim.
use Rattle.std.specs.Prelude.{ℕ, zero, suc, ◌≤◌, cond, List, [], ◌∷◌, ◌++◌, length, Some, None, Option, nat_le}
use Rattle.mtl.specs.Rows.{Row}
use Rattle.mtl.specs.Lines.{Rules}
use Rattle.mtl.specs.Claims.{Claim, Node}
use Rattle.mtl.specs.Certificates.{node_of}
use Rattle.mtl.specs.Forms.{Step, steps}

-- certificates, or none: put one after another
abbrev pub chained : Option (List Node) → Option (List Node) → Option (List Node)
chained (Some a) (Some b) = Some (a ++ b)
chained (Some a) None = None
chained None o = None

-- the shorter, the first among equals
abbrev pub shorter : Option (List Node) → Option (List Node) → Option (List Node)
shorter None o = o
shorter (Some a) None = Some a
shorter (Some a) (Some b) = cond (nat_le (length a) (length b)) (Some a) (Some b)

-- of each claim, one after another
unfoldable pub of_all : (Claim → Option (List Node)) → List Claim → Option (List Node)
of_all f [] = Some []
of_all f (c ∷ cs) = chained (f c) (of_all f cs)

-- by one way: its children's certificates, then its node
abbrev pub attempt : (Claim → Option (List Node)) → Claim → Step → Option (List Node)
attempt f c s = chained (of_all f s.kids) (Some (node_of s.rule c s.kids ∷ []))

-- by the way that gives the shortest, the first among equals
unfoldable pub of_any : (Claim → Option (List Node)) → Claim → List Step → Option (List Node)
of_any f c [] = None
of_any f c (s ∷ ss) = shorter (attempt f c s) (of_any f c ss)

-- the certificate that is written for a claim, over lines that go d deep
unfoldable pub written : Rules → List Row → ℕ → Claim → Option (List Node)
written T R zero c = None
written T R (suc d) c = of_any (written T R d) c (steps T R c)

-- the certificate of a claim: of least size, among equals by the lower rule, then by the lower j, in each child likewise
unfoldable pub certificate : Rules → List Row → Claim → Option (List Node)
certificate T R c = written T R (suc c.line) c

-- what is best among the lists of which P holds
abbrev pub Best : (List Node → Type 0) → Option (List Node) → Type 0
Best P None = (ns : List Node) → P ns → ⊥
Best P (Some a) = P a × ((ns : List Node) → P ns → length a ≤ length ns)
