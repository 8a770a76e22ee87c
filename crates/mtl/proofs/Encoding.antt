-- Nodes as bytes, and back.
use Rattle.std.proofs.Common.{◌≡◌, ℕ, suc, ◌+◌, ◌*◌, ◌/◌, ◌%◌, ◌<◌, ◌≤◌, List, [], ◌∷◌, length, get_or, refl, ap₂, arith}
use Rattle.mtl.specs.Claims.{Node}
use Rattle.mtl.specs.Bytes.{nodes, bytes}

-- six bytes a node, read back
two : (x : ℕ) → (x / 256) * 256 + x % 256 ≡ x
two x = omega arith

pub nodes_bytes : (ns : List Node) → nodes (bytes ns) ≡ ns
nodes_bytes [] = refl
nodes_bytes (d ∷ ds) = ap₂ ◌∷◌ (λ i. record { line = d.line; rule = d.rule; row = two d.row i; count = two d.count i }) (nodes_bytes ds)

pub length_bytes : (ns : List Node) → length (bytes ns) ≡ 6 * length ns
length_bytes [] = refl
length_bytes (d ∷ ds) = let e = length_bytes ds in omega arith

pub length_nodes : (bs : List ℕ) → 6 * length (nodes bs) ≤ length bs
length_nodes [] = omega arith
length_nodes (a ∷ []) = omega arith
length_nodes (a ∷ b ∷ []) = omega arith
length_nodes (a ∷ b ∷ c ∷ []) = omega arith
length_nodes (a ∷ b ∷ c ∷ d ∷ []) = omega arith
length_nodes (a ∷ b ∷ c ∷ d ∷ e ∷ []) = omega arith
length_nodes (a ∷ b ∷ c ∷ d ∷ e ∷ f ∷ rest) = let h = length_nodes rest in omega arith

-- a whole number of nodes leaves no byte over
pub length_whole : (bs : List ℕ) → length bs % 6 ≡ 0 → length bs ≡ 6 * length (nodes bs)
length_whole [] h = refl
length_whole (a ∷ []) h = absurd (omega arith)
length_whole (a ∷ b ∷ []) h = absurd (omega arith)
length_whole (a ∷ b ∷ c ∷ []) h = absurd (omega arith)
length_whole (a ∷ b ∷ c ∷ d ∷ []) h = absurd (omega arith)
length_whole (a ∷ b ∷ c ∷ d ∷ e ∷ []) h = absurd (omega arith)
length_whole (a ∷ b ∷ c ∷ d ∷ e ∷ f ∷ rest) h = let r = length_whole rest (omega arith) in omega arith

high : (x y : ℕ) → y < 256 → (x * 256 + y) / 256 ≡ x
high x y h = omega arith

low : (x y : ℕ) → y < 256 → (x * 256 + y) % 256 ≡ y
low x y h = omega arith

pub bytes_nodes : (bs : List ℕ) → length bs % 6 ≡ 0 → ((i : ℕ) → i < length bs → get_or bs i 0 < 256) → bytes (nodes bs) ≡ bs
bytes_nodes [] h fit = refl
bytes_nodes (a ∷ []) h fit = absurd (omega arith)
bytes_nodes (a ∷ b ∷ []) h fit = absurd (omega arith)
bytes_nodes (a ∷ b ∷ c ∷ []) h fit = absurd (omega arith)
bytes_nodes (a ∷ b ∷ c ∷ d ∷ []) h fit = absurd (omega arith)
bytes_nodes (a ∷ b ∷ c ∷ d ∷ e ∷ []) h fit = absurd (omega arith)
bytes_nodes (a ∷ b ∷ c ∷ d ∷ e ∷ f ∷ rest) h fit =
    let r = bytes_nodes rest (omega arith) (λ i lt. fit (suc (suc (suc (suc (suc (suc i)))))) (omega arith)) in
    let d_fits : d < 256 = fit 3 (omega arith) in
    let f_fits : f < 256 = fit 5 (omega arith) in
    λ k. a ∷ b ∷ high c d d_fits k ∷ low c d d_fits k ∷ high e f f_fits k ∷ low e f f_fits k ∷ r k
