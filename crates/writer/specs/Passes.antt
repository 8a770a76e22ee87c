-- The rules that leave a choice of j, each by itself.
use Rattle.std.specs.Prelude.{ℕ, suc, ◌+◌, ◌-◌, Bool, ◌&&◌, leb, List, ◌∷◌, length, nat_le, nat_lt}
use Rattle.mtl.specs.Claims.{Held, Broken, each}
use Rattle.mtl.specs.Forms.{Form, form, first_then}
use Rattle.mtl.specs.Ranges.{range, run, keep}
use Rattle.mtl.specs.Rows.{time_at}
use Rattle.mtl.specs.Windows.{inside, up_to}
use Rattle.mtl.specs.declared.line.Window.{Window}
use Rattle.mtl.specs.declared.row.Row.{Row}
use Rattle.mtl.specs.declared.ruling.Ruling.TheVariants.{Held as held, Broken as broken}

-- how long before row i row j came
abbrev pub ago : List Row → ℕ → ℕ → ℕ
ago R i j = time_at R i - time_at R j

abbrev pub rule20 : List Row → ℕ → Window → ℕ → ℕ → Form
rule20 R i w l r =
    form 20 held (first_then (Held r i) (Held l i)) 0 (suc i) (λ j. Held r j ∷ each held l (range (j + 1) i))
    (λ j. nat_le j i && inside w (ago R i j))

abbrev pub rule21 : List Row → ℕ → Window → ℕ → ℕ → Form
rule21 R i w l r =
    form 21 broken (first_then (Broken l i) (Broken r i)) 1 i
    (λ j. Broken l j ∷ each broken r (keep (λ k. leb w.from (ago R i k)) (range j i)))
    (λ j. (nat_le 1 j && nat_le j i) && (up_to w.to (ago R i (j - 1)) && nat_le w.from (ago R i 0)))

abbrev pub rule24 : List Row → ℕ → Window → ℕ → ℕ → Form
rule24 R i w l r =
    form 24 held (first_then (Held r i) (Held l i)) i (length R - i) (λ j. Held r j ∷ each held l (run i (j - i)))
    (λ j. (nat_le i j && nat_lt j (length R)) && inside w (ago R j i))

abbrev pub rule25 : List Row → ℕ → Window → ℕ → ℕ → Form
rule25 R i w l r =
    form 25 broken (first_then (Broken l i) (Broken r i)) i (length R - i)
    (λ j. Broken l j ∷ each broken r (keep (λ k. leb w.from (ago R k i)) (range i j)))
    (λ j. (nat_le i j && nat_lt j (length R)) && up_to w.to (ago R j i))

-- rows far enough before or after row i, and rows inside the window
abbrev pub far_before : List Row → ℕ → Window → ℕ → Bool
far_before R i w k = nat_le w.from (ago R i k)

abbrev pub in_before : List Row → ℕ → Window → ℕ → Bool
in_before R i w k = inside w (ago R i k)

abbrev pub far_after : List Row → ℕ → Window → ℕ → Bool
far_after R i w k = nat_le w.from (ago R k i)

abbrev pub in_after : List Row → ℕ → Window → ℕ → Bool
in_after R i w k = inside w (ago R k i)
