-- The row of waiting subtrees while a certificate is read.
use Rattle.std.specs.Prelude.{◌≡◌, ℕ, List, [], ◌∷◌, ◌++◌, length, Some, ◌≢◌}
use Rattle.mtl.specs.Questions.{first_no}
use Rattle.mtl.specs.Rows.{Row}
use Rattle.mtl.specs.Lines.{Rules}
use Rattle.mtl.specs.Claims.{Claim, Node}
use Rattle.mtl.specs.Follows.{Follows}
use Rattle.mtl.specs.Certificates.{node_of}
use Rattle.mtl.specs.Checking.{questions_at}

-- with s waiting, nodes that follow their rules leave t waiting: a node takes its children off the end and puts itself there
pub data Leaves (T : Rules) (R : List Row) : List Claim → List Node → List Claim → Type 0 where
  stop : {s : List Claim} → Leaves T R s [] s
  take :
      (s : List Claim) {t kids : List Claim} {c : Claim} {rule : ℕ} {ns : List Node} → Follows T R rule c kids → Leaves T R (s ++ (c ∷ [])) ns t →
      Leaves T R (s ++ kids) (node_of rule c kids ∷ ns) t

-- the check of these nodes stops at node m with question q: every node before follows its rule, and q is the first question answered no,
-- of that node or, at the end, that exactly one subtree waits
pub data Stops (T : Rules) (R : List Row) (ns : List Node) (q m : ℕ) : Type 0 where
  at_node :
      (before : List Node) (d : Node) (after : List Node) (s : List Claim) → before ++ (d ∷ after) ≡ ns → m ≡ length before →
      Leaves T R [] before s → first_no (questions_at T R s d) ≡ Some q → Stops T R ns q m
  at_end : (s : List Claim) → m ≡ length ns → Leaves T R [] ns s → q ≡ 20 → (length s ≢ 1) → Stops T R ns q m
