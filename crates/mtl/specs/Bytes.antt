-- A certificate's nodes as bytes, six a node, and a row as eight bytes, the higher byte first.
use Rattle.std.specs.Prelude.{ℕ, ◌+◌, ◌*◌, ◌/◌, ◌%◌, List, [], ◌∷◌, ◌++◌}
use Rattle.mtl.specs.Claims.{Node}
use Rattle.mtl.specs.Rows.{Row}

abbrev pub node_at : ℕ → ℕ → ℕ → ℕ → ℕ → ℕ → Node
node_at line rule row1 row0 count1 count0 =
    record { line = line; rule = rule; row = row1 * 256 + row0; count = count1 * 256 + count0 }

-- the nodes that bytes say; bytes that are left over say none
abbrev pub nodes : List ℕ → List Node
nodes [] = []
nodes (a ∷ []) = []
nodes (a ∷ b ∷ []) = []
nodes (a ∷ b ∷ c ∷ []) = []
nodes (a ∷ b ∷ c ∷ d ∷ []) = []
nodes (a ∷ b ∷ c ∷ d ∷ e ∷ []) = []
nodes (a ∷ b ∷ c ∷ d ∷ e ∷ f ∷ rest) = node_at a b c d e f ∷ nodes rest

-- the bytes that say these nodes
abbrev pub bytes : List Node → List ℕ
bytes [] = []
bytes (d ∷ ds) = d.line ∷ d.rule ∷ d.row / 256 ∷ d.row % 256 ∷ d.count / 256 ∷ d.count % 256 ∷ bytes ds

-- the four bytes of a number of 32 bits
abbrev pub word_bytes : ℕ → List ℕ
word_bytes n = n / 16777216 ∷ n / 65536 % 256 ∷ n / 256 % 256 ∷ n % 256 ∷ []

-- a row's bytes in a sheet: its time, then its marks
abbrev pub row_bytes : Row → List ℕ
row_bytes r = word_bytes r.time ++ word_bytes r.marks
