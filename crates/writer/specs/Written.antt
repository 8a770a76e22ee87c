-- The bytes of a certificate, and what a writer leaves in its output.
use Rattle.std.specs.Prelude.{◌≡◌, ℕ, ◌+◌, ◌/◌, ◌%◌, ◌<◌, ◌≤◌, List, [], ◌∷◌, ◌++◌, length, take, drop, Some, None, Option}
use Rattle.mtl.specs.Bytes.{bytes}
use Rattle.mtl.specs.Lines.{Rules}
use Rattle.mtl.specs.Shortest.{certificate}
use Rattle.mtl.specs.declared.row.Row.{Row}
use Rattle.mtl.specs.declared.ruling.Claim.{Claim}
use Rattle.mtl.specs.declared.ruling.Node.{Node}
use Rattle.writer.specs.Tables.{cell_of, best_by}
use Rattle.writer.specs.Choice.{cell_in}

-- six bytes: line, rule, row, count, the higher byte first
abbrev pub node : ℕ → ℕ → ℕ → ℕ → List ℕ
node line rule row count = line ∷ rule ∷ row / 256 ∷ row % 256 ∷ count / 256 ∷ count % 256 ∷ []

-- out with bytes in place of what stood from at on
unfoldable pub put_at : List ℕ → ℕ → List ℕ → List ℕ
put_at out at bytes = take at out ++ (bytes ++ drop (at + length bytes) out)

-- bytes were written from at up to end, and nothing else was
pub record Wrote (old new : List ℕ) (at end : ℕ) (bytes : List ℕ) : Type 0 where
  pub upto : end ≡ at + length bytes
  pub holds : new ≡ put_at old at bytes

-- the bytes of a certificate, none where there is none
abbrev pub bytes_in : Option (List Node) → List ℕ
bytes_in None = []
bytes_in (Some ns) = bytes ns

unfoldable pub cert_bytes : Rules → List Row → Claim → List ℕ
cert_bytes T R c = bytes_in (certificate T R c)

-- of several claims, one after another
unfoldable pub all_bytes : Rules → List Row → List Claim → List ℕ
all_bytes T R [] = []
all_bytes T R (c ∷ cs) = cert_bytes T R c ++ all_bytes T R cs

-- there is a certificate, of at most 4,096 nodes
abbrev pub Short : Rules → List Row → Claim → Type 0
Short T R c = (1 ≤ cell_of T R c) × (cell_of T R c ≤ 4096)

-- a filled plan: the code of the least way to rule each claim
abbrev pub Planned : Rules → List Row → List ℕ → Type 0
Planned T R plan = (k : Claim) → k.line < 32 → k.row < 128 → cell_in plan k ≡ (best_by (cell_of T R) T R k).code
