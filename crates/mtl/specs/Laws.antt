-- The laws of the subject, and what the answers of Check and Settle say by them.
use Rattle.std.specs.Prelude.{◌≡◌, ℕ, ◌*◌, ◌%◌, ◌<◌, ◌≤◌, ◌⊎◌, ◌↔◌, List, length, Some, None, Ok, Err, Result, ◌≢◌, slice_index, slice_index_or}
use Rattle.mtl.specs.Questions.{first_no, FirstNot}
use Rattle.mtl.specs.Rows.{Row, NeverFalls}
use Rattle.mtl.specs.Lines.{Rules, WellFormed}
use Rattle.mtl.specs.Formulas.{formula}
use Rattle.mtl.specs.Claims.{Claim, Node, claim, Held, Broken}
use Rattle.mtl.specs.Continuations.{Always}
use Rattle.mtl.specs.Follows.{Follows}
use Rattle.mtl.specs.Certificates.{Cert, Certified}
use Rattle.mtl.specs.Reach.{Reach}
use Rattle.mtl.specs.Forms.{Step, steps}
use Rattle.mtl.specs.Bytes.{nodes, bytes}
use Rattle.mtl.specs.Checking.{Verdict, accepted, refused, check_questions, check_answer}
use Rattle.mtl.specs.Waiting.{Stops}
use Rattle.mtl.specs.Shortest.{certificate, attempt, Best}
use Rattle.mtl.specs.Chosen.{Chosen}
use Rattle.mtl.specs.Cells.{cell, best_cell, planned}
use Rattle.mtl.specs.Settling.{Settled, Lengths, SettleAsks, settle_answer, settle_writes}

-- what a certificate claims is true in every continuation of the rows that it stands on
abbrev pub Sound : Type 0
Sound = (T : Rules) → WellFormed T → (R : List Row) (c : Claim) (ns : List Node) → Cert T R c ns → Always T R c

-- no line has a held and a broken certificate at one row
abbrev pub OneRuling : Type 0
OneRuling =
    (T : Rules) → WellFormed T → (R : List Row) → NeverFalls R → (n i : ℕ) → Certified T R (Held n i) → Certified T R (Broken n i) → ⊥

-- what is in reach has a certificate, held or broken
abbrev pub Complete : Type 0
Complete =
    (T : Rules) → WellFormed T → (R : List Row) → NeverFalls R → (n i : ℕ) → n < length T → i < length R → Reach R (formula T n) i →
    Certified T R (Held n i) ⊎ Certified T R (Broken n i)

-- a claim follows by a rule from these children exactly where the executable table lists that way
abbrev pub Listed : Type 0
Listed =
    (T : Rules) (R : List Row) (c : Claim) (s : Step) →
    Follows T R s.rule c s.kids ↔ ((k : ℕ) × (k < length (steps T R c)) × (slice_index_or (steps T R c) k s ≡ s))

-- the written certificate is one, none is smaller, and it is the chosen one; where none is written, there is none
abbrev pub Least : Type 0
Least =
    (T : Rules) → WellFormed T → (R : List Row) (c : Claim) →
    Best (Cert T R c) (certificate T R c) × ((ns : List Node) → certificate T R c ≡ Some ns ↔ Chosen T R c ns)

-- a cell follows from the cells of earlier lines, and the step that these cells choose is the written certificate's own
abbrev pub Filled : Type 0
Filled =
    (T : Rules) → WellFormed T → (R : List Row) (g : Claim → ℕ) (c : Claim) → ((k : Claim) → k.line < c.line → g k ≡ cell (certificate T R k)) →
    (best_cell g (steps T R c) ≡ cell (certificate T R c)) ×
    (1 ≤ cell (certificate T R c) → cell (certificate T R c) ≤ 4096 →
    (s : Step) × (planned g (steps T R c) ≡ Some s) × (certificate T R c ≡ attempt (certificate T R) c s))

-- bytes and nodes are inverse to each other, and nodes determine the claim
abbrev pub Bytes : Type 0
Bytes =
    ((ns : List Node) → nodes (bytes ns) ≡ ns) ×
    ((bs : List ℕ) → length bs % 6 ≡ 0 → ((i : ℕ) → i < length bs → slice_index bs i < 256) → bytes (nodes bs) ≡ bs) ×
    ((T : Rules) (R : List Row) (ns : List Node) (c d : Claim) → Cert T R c ns → Cert T R d ns → c ≡ d)

-- the bytes are a certificate of the claim, six bytes a node and at most 4,096 nodes
abbrev pub IsCertificate : Rules → List Row → List ℕ → Claim → Type 0
IsCertificate T R bs c = (length bs ≡ 6 * length (nodes bs)) × (length (nodes bs) ≤ 4096) × Cert T R c (nodes bs)

-- Check stops with question q at node m: before any node, at node 0; or while it reads the nodes
abbrev pub RefusedBy : Rules → List Row → List ℕ → ℕ → ℕ → ℕ → Type 0
RefusedBy T R bs stack q m =
    ((first_no (check_questions (length bs) stack) ≡ Some q) × (m ≡ 0)) ⊎
    ((first_no (check_questions (length bs) stack) ≡ None) × Stops T R (nodes bs) q m)

-- what an answer of Check says: accepted bytes are a certificate, and the claim is true in every continuation;
-- refused ones, given stack enough, are a certificate of no claim, and the node and the question told are the first
abbrev pub CheckSays : Rules → List Row → List ℕ → ℕ → Verdict → Type 0
CheckSays T R bs stack (accepted c) = IsCertificate T R bs c × Always T R c
CheckSays T R bs stack (refused q m) =
    (length (nodes bs) ≤ stack → (c : Claim) → IsCertificate T R bs c → ⊥) × RefusedBy T R bs stack q m

abbrev pub Exact : Type 0
Exact = (T : Rules) → WellFormed T → (R : List Row) (bs : List ℕ) (stack : ℕ) → CheckSays T R bs stack (check_answer T R bs stack)

-- what an accepted Settle says of the ruling, the size and the bytes written
pub record Settles (T : Rules) (R : List Row) (n i : ℕ) (s : Settled) (out : List ℕ) : Type 0 where
  -- the ruling is true in every continuation
  pub true_always : Always T R (claim n i s.ruling)
  -- Check, given stack enough, accepts the bytes as that line, row and ruling
  pub checked : (stack : ℕ) → s.size ≤ stack → check_answer T R out stack ≡ accepted (claim n i s.ruling)
  -- they are as many nodes as the size says
  pub sized : length out ≡ 6 * s.size
  -- no certificate that Check accepts as that claim has fewer
  pub shortest : (cert : List ℕ) (stack : ℕ) → check_answer T R cert stack ≡ accepted (claim n i s.ruling) → 6 * s.size ≤ length cert

-- what an answer of Settle says: a refusal tells the first of its questions that is answered no, and a line in reach is not told open
abbrev pub SettleSays : Rules → List Row → ℕ → ℕ → Lengths → Result Settled ℕ → List ℕ → Type 0
SettleSays T R n i ls (Ok s) out = Settles T R n i s out
SettleSays T R n i ls (Err q) out = FirstNot (SettleAsks T R n i ls) q × (Reach R (formula T n) i → q ≢ 24)

abbrev pub Settling : Type 0
Settling =
    (T : Rules) → WellFormed T → (R : List Row) → NeverFalls R → (n i : ℕ) (ls : Lengths) →
    SettleSays T R n i ls (settle_answer T R n i ls) (settle_writes T R n i (settle_answer T R n i ls))
