-- What Settle answers, and the certificate that it writes.
pub use Rattle.mtl.specs.declared.ruling.Settled.{Settled}
use Rattle.std.specs.Prelude.{ℕ, ◌*◌, ◌<◌, ◌≤◌, Bool, true, false, ◌&&◌, List, [], ◌∷◌, length, take, Some, None, Ok, Err, Option, Result, nat_le, nat_lt}
use Rattle.mtl.specs.Questions.{Question, first_no, answer}
use Rattle.mtl.specs.Rows.{Row}
use Rattle.mtl.specs.Lines.{Rules}
use Rattle.mtl.specs.Claims.{Ruling, held, broken, Node, claim, Held, Broken}
use Rattle.mtl.specs.Certificates.{Cert}
use Rattle.mtl.specs.Shortest.{certificate}
use Rattle.mtl.specs.Bytes.{bytes}

-- a ruling and a certificate for it
pub record Settlement : Type 0 where
  pub ruling : Ruling
  pub proof : List Node

-- the certificate that there is: at most one of the two exists
abbrev pub one_of : Option (List Node) → Option (List Node) → Option Settlement
one_of (Some ns) o = Some (record { ruling = held; proof = ns })
one_of None (Some ns) = Some (record { ruling = broken; proof = ns })
one_of None None = None

unfoldable pub settlement : Rules → List Row → ℕ → ℕ → Option Settlement
settlement T R n i = one_of (certificate T R (Held n i)) (certificate T R (Broken n i))

-- the lengths of Settle's two work buffers and of its output
pub record Lengths : Type 0 where
  pub sizes : ℕ
  pub plan : ℕ
  pub out : ℕ

abbrev pub lengths : ℕ → ℕ → ℕ → Lengths
lengths a b c = record { sizes = a; plan = b; out = c }

abbrev pub any : Option Settlement → Bool
any None = false
any (Some s) = true

abbrev pub proof_of : Option Settlement → List Node
proof_of None = []
proof_of (Some s) = s.proof

abbrev pub ruling_of : Option Settlement → Ruling
ruling_of None = held
ruling_of (Some s) = s.ruling

abbrev pub settle_questions : Rules → List Row → ℕ → ℕ → Lengths → Option Settlement → List Question
settle_questions T R n i ls o =
    (21, nat_lt n (length T)) ∷
    (22, nat_lt i (length R)) ∷
    (23, nat_le 8192 ls.sizes && nat_le 8192 ls.plan) ∷
    (24, any o) ∷
    (25, nat_le (length (proof_of o)) 4096) ∷
    (26, nat_le (6 * length (proof_of o)) ls.out) ∷ []

abbrev pub settle_by : Rules → List Row → ℕ → ℕ → Lengths → Option Settlement → Result Settled ℕ
settle_by T R n i ls o = answer (first_no (settle_questions T R n i ls o)) (record { ruling = ruling_of o; size = length (proof_of o) })

unfoldable pub settle_answer : Rules → List Row → ℕ → ℕ → Lengths → Result Settled ℕ
settle_answer T R n i ls = settle_by T R n i ls (settlement T R n i)

-- the bytes that a Settle with this answer writes
unfoldable pub settle_writes : Rules → List Row → ℕ → ℕ → Result Settled ℕ → List ℕ
settle_writes T R n i (Ok s) = bytes (proof_of (settlement T R n i))
settle_writes T R n i (Err q) = []

-- Settle's questions as statements about certificates: some certificate of the line at the row is such
abbrev pub SomeCertificate : Rules → List Row → ℕ → ℕ → (ℕ → Type 0) → Type 0
SomeCertificate T R n i P = (r : Ruling) × (ns : List Node) × Cert T R (claim n i r) ns × P (length ns)

abbrev pub SettleAsks : Rules → List Row → ℕ → ℕ → Lengths → List (ℕ × Type 0)
SettleAsks T R n i ls =
    (21, n < length T) ∷
    (22, i < length R) ∷
    (23, (8192 ≤ ls.sizes) × (8192 ≤ ls.plan)) ∷
    (24, SomeCertificate T R n i (λ size. Unit {0})) ∷
    (25, SomeCertificate T R n i (λ size. size ≤ 4096)) ∷
    (26, SomeCertificate T R n i (λ size. 6 * size ≤ ls.out)) ∷ []

-- what a Settle with this answer wrote, read off the output
abbrev pub wrote : Result Settled ℕ → List ℕ → List ℕ
wrote (Ok s) out = take (6 * s.size) out
wrote (Err q) out = []
