-- The 26 proof rules: the table that a reader must believe.
use Rattle.std.specs.Prelude.{◌≡◌, ℕ, ◌+◌, ◌-◌, ◌<◌, ◌≤◌, List, [], ◌∷◌, length, nat_le}
use Rattle.mtl.specs.Rows.{Row, row_at, time_at, Stands}
use Rattle.mtl.specs.Lines.{Window, Line, mark, neg, and, or, previous, next, since, until, Rules, line_at}
use Rattle.mtl.specs.Windows.{Inside, UpTo, Past, inside}
use Rattle.mtl.specs.Ranges.{run, range, keep}
use Rattle.mtl.specs.Claims.{Claim, held, broken, Held, Broken, each}

-- line n of the table is l
pub record LineIs (T : Rules) (n : ℕ) (l : Line) : Type 0 where
  pub within : n < length T
  pub is : line_at T n ≡ l

-- by this rule, this claim follows from exactly these children in this order: one constructor a rule
pub data Follows (T : Rules) (R : List Row) : ℕ → Claim → List Claim → Type 0 where
  rule_1 : {n i m : ℕ} → LineIs T n (mark m) → i < length R → Stands (row_at R i) m → Follows T R 1 (Held n i) []
  rule_2 : {n i m : ℕ} → LineIs T n (mark m) → i < length R → (Stands (row_at R i) m → ⊥) → Follows T R 2 (Broken n i) []
  rule_3 : {n i l : ℕ} → LineIs T n (neg l) → i < length R → Follows T R 3 (Held n i) (Broken l i ∷ [])
  rule_4 : {n i l : ℕ} → LineIs T n (neg l) → i < length R → Follows T R 4 (Broken n i) (Held l i ∷ [])
  rule_5 : {n i l r : ℕ} → LineIs T n (and l r) → i < length R → Follows T R 5 (Held n i) (Held l i ∷ Held r i ∷ [])
  rule_6 : {n i l r : ℕ} → LineIs T n (and l r) → i < length R → Follows T R 6 (Broken n i) (Broken l i ∷ [])
  rule_7 : {n i l r : ℕ} → LineIs T n (and l r) → i < length R → Follows T R 7 (Broken n i) (Broken r i ∷ [])
  rule_8 : {n i l r : ℕ} → LineIs T n (or l r) → i < length R → Follows T R 8 (Held n i) (Held l i ∷ [])
  rule_9 : {n i l r : ℕ} → LineIs T n (or l r) → i < length R → Follows T R 9 (Held n i) (Held r i ∷ [])
  rule_10 : {n i l r : ℕ} → LineIs T n (or l r) → i < length R → Follows T R 10 (Broken n i) (Broken l i ∷ Broken r i ∷ [])
  rule_11 :
      {n i l : ℕ} {w : Window} → LineIs T n (previous w l) → i < length R → 0 < i →
      Inside w (time_at R i - time_at R (i - 1)) → Follows T R 11 (Held n i) (Held l (i - 1) ∷ [])
  rule_12 : {n i l : ℕ} {w : Window} → LineIs T n (previous w l) → i < length R → 0 < i → Follows T R 12 (Broken n i) (Broken l (i - 1) ∷ [])
  rule_13 :
      {n i l : ℕ} {w : Window} → LineIs T n (previous w l) → i < length R → 0 < i →
      time_at R i - time_at R (i - 1) < w.from → Follows T R 13 (Broken n i) []
  rule_14 :
      {n i l : ℕ} {w : Window} → LineIs T n (previous w l) → i < length R → 0 < i →
      Past w.to (time_at R i - time_at R (i - 1)) → Follows T R 14 (Broken n i) []
  rule_15 : {n i l : ℕ} {w : Window} → LineIs T n (previous w l) → i < length R → i ≡ 0 → Follows T R 15 (Broken n i) []
  rule_16 :
      {n i l : ℕ} {w : Window} → LineIs T n (next w l) → i + 1 < length R →
      Inside w (time_at R (i + 1) - time_at R i) → Follows T R 16 (Held n i) (Held l (i + 1) ∷ [])
  rule_17 : {n i l : ℕ} {w : Window} → LineIs T n (next w l) → i < length R → Follows T R 17 (Broken n i) (Broken l (i + 1) ∷ [])
  rule_18 :
      {n i l : ℕ} {w : Window} → LineIs T n (next w l) → i + 1 < length R →
      time_at R (i + 1) - time_at R i < w.from → Follows T R 18 (Broken n i) []
  rule_19 :
      {n i l : ℕ} {w : Window} → LineIs T n (next w l) → i + 1 < length R →
      Past w.to (time_at R (i + 1) - time_at R i) → Follows T R 19 (Broken n i) []
  rule_20 :
      {n i l r j : ℕ} {w : Window} → LineIs T n (since w l r) → i < length R → j ≤ i →
      Inside w (time_at R i - time_at R j) → Follows T R 20 (Held n i) (Held r j ∷ each held l (range (j + 1) i))
  rule_21 :
      {n i l r j : ℕ} {w : Window} → LineIs T n (since w l r) → i < length R → 1 ≤ j → j ≤ i →
      UpTo w.to (time_at R i - time_at R (j - 1)) → w.from ≤ time_at R i - time_at R 0 →
      Follows T R 21 (Broken n i) (Broken l j ∷ each broken r (keep (λ k. nat_le w.from (time_at R i - time_at R k)) (range j i)))
  rule_22 :
      {n i l r : ℕ} {w : Window} → LineIs T n (since w l r) → i < length R → w.from ≤ time_at R i - time_at R 0 →
      Follows T R 22 (Broken n i) (each broken r (keep (λ k. inside w (time_at R i - time_at R k)) (range 0 i)))
  rule_23 :
      {n i l r : ℕ} {w : Window} → LineIs T n (since w l r) → i < length R → time_at R i - time_at R 0 < w.from →
      Follows T R 23 (Broken n i) []
  rule_24 :
      {n i l r j : ℕ} {w : Window} → LineIs T n (until w l r) → i ≤ j → j < length R →
      Inside w (time_at R j - time_at R i) → Follows T R 24 (Held n i) (Held r j ∷ each held l (run i (j - i)))
  rule_25 :
      {n i l r j : ℕ} {w : Window} → LineIs T n (until w l r) → i ≤ j → j < length R →
      UpTo w.to (time_at R j - time_at R i) →
      Follows T R 25 (Broken n i) (Broken l j ∷ each broken r (keep (λ k. nat_le w.from (time_at R k - time_at R i)) (range i j)))
  rule_26 :
      {n i l r : ℕ} {w : Window} → LineIs T n (until w l r) → i < length R →
      Past w.to (time_at R (length R - 1) - time_at R i) →
      Follows T R 26 (Broken n i) (each broken r (keep (λ k. inside w (time_at R k - time_at R i)) (run i (length R - i))))
