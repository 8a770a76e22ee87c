-- One node of the walk over a certificate's bytes, and its end.
use Rattle.std.proofs.Common.{◌≡◌, ℕ, suc, ◌+◌, ◌-◌, ◌*◌, ◌<◌, ◌≤◌, List, [], ◌∷◌, ◌++◌, length, get_or, take, drop, set, Ok, Err, sym, refl, ap, ◌∙◌, ap₂, add-one, arith, length-take-le, take_all, take-take}
use Rattle.std.proofs.lemmas.List.{take_more_set}
use Rattle.mtl.specs.declared.row.Row.{Row}
use Rattle.mtl.specs.declared.ruling.Claim.{Claim}
use Rattle.mtl.specs.declared.ruling.Node.{Node}
use Rattle.mtl.specs.declared.ruling.Ruling.{Ruling}
use Rattle.mtl.specs.Bytes.{node_at, nodes}
use Rattle.mtl.specs.Checking.{Went, stops, goes, node_step, Verdict, refused, ended, checks}
use Rattle.mtl.specs.Claims.{claim}
use Rattle.mtl.specs.Lines.{Rules}
use Rattle.checker.specs.declared.fault.CheckFault.{CheckFault}
use Rattle.checker.specs.Told.{fault_told, told}
use Rattle.checker.specs.Stepped.{stepped}

-- the bytes after the first six
abbrev pub rest : List ℕ → List ℕ
rest xs = take (length xs - 6) (drop 6 xs)

nodes_more : (xs : List ℕ) → 6 ≤ length xs → nodes xs ≡ node_at (get_or xs 0 0) (get_or xs 1 0) (get_or xs 2 0) (get_or xs 3 0) (get_or xs 4 0) (get_or xs 5 0) ∷ nodes (rest xs)
nodes_more [] h = absurd (omega arith)
nodes_more (a ∷ []) h = absurd (omega arith)
nodes_more (a ∷ b ∷ []) h = absurd (omega arith)
nodes_more (a ∷ b ∷ c ∷ []) h = absurd (omega arith)
nodes_more (a ∷ b ∷ c ∷ d ∷ []) h = absurd (omega arith)
nodes_more (a ∷ b ∷ c ∷ d ∷ e ∷ []) h = absurd (omega arith)
nodes_more (a ∷ b ∷ c ∷ d ∷ e ∷ f ∷ bs) h = ap (λ l. node_at a b c d e f ∷ nodes l) (sym (take_all _ bs (omega arith)))

nodes_none : (xs : List ℕ) → length xs < 6 → nodes xs ≡ []
nodes_none [] h = refl
nodes_none (a ∷ []) h = refl
nodes_none (a ∷ b ∷ []) h = refl
nodes_none (a ∷ b ∷ c ∷ []) h = refl
nodes_none (a ∷ b ∷ c ∷ d ∷ []) h = refl
nodes_none (a ∷ b ∷ c ∷ d ∷ e ∷ []) h = refl
nodes_none (a ∷ b ∷ c ∷ d ∷ e ∷ f ∷ bs) h = absurd (omega arith)

-- the first six bytes say node n
abbrev pub Reading : List ℕ → Node → Type 0
Reading xs n =
    (n.line ≡ get_or xs 0 0) × (n.rule ≡ get_or xs 1 0) × (n.row ≡ get_or xs 2 0 * 256 + get_or xs 3 0) × (n.count ≡ get_or xs 4 0 * 256 + get_or xs 5 0)

module _ (T : Rules) (R : List Row) where
  -- what follows a node's step
  abbrev onward : List Node → ℕ → Went → Verdict
  onward ns k w = elim w [ stops q ↦ refused q k | goes t ↦ checks T R t ns (suc k) ]

  module _ (xs : List ℕ) (i top : ℕ) (st : List Claim) (n : Node) (long : 6 ≤ length xs) (reads : Reading xs n) where
    next_node : nodes xs ≡ n ∷ nodes (rest xs)
    next_node =
        nodes_more xs long ∙ (λ k. record { line = sym reads.0 k; rule = sym reads.1 k; row = sym reads.2 k; count = sym reads.3 k } ∷ nodes (rest xs))

    one_step : (w : Went) → w ≡ node_step T R (take top st) n → checks T R (take top st) (nodes xs) i ≡ onward (nodes (rest xs)) i w
    unfolding checks
    one_step w e = ap (λ ns. checks T R (take top st) ns i) next_node ∙ ap (onward (nodes (rest xs)) i) (sym e)

    pub wrong : (f : CheckFault) → stepped (take top st) n (Err f) ≡ node_step T R (take top st) n → (fault_told f).1 ≡ i → checks T R (take top st) (nodes xs) i ≡ told (Err f)
    wrong f e at = one_step (stops (fault_told f).0) e ∙ ap (refused (fault_told f).0) (sym at)

    pub right :
        (r : Ruling) → top ≤ length st → n.count ≤ top → top - n.count < length st → stepped (take top st) n (Ok r) ≡ node_step T R (take top st) n →
        checks T R (take top st) (nodes xs) i ≡ checks T R (take (top - n.count + 1) (set st (top - n.count) (claim n.line n.row r))) (nodes (rest xs)) (i + 1)
    right r fits few room e = one_step (goes _) e ∙ ap₂ (λ t k. checks T R t (nodes (rest xs)) k) pushed (sym (add-one i))
      where
        pushed :
            take (length (take top st) - n.count) (take top st) ++ (claim n.line n.row r ∷ [])
            ≡ take (top - n.count + 1) (set st (top - n.count) (claim n.line n.row r))
        pushed =
            ap (λ m. take (m - n.count) (take top st) ++ (claim n.line n.row r ∷ [])) (length-take-le top st fits)
            ∙ (ap (λ v. v ++ (claim n.line n.row r ∷ [])) (take-take (top - n.count) top st (omega arith)) ∙ sym (take_more_set st (top - n.count) _ room))

  pub at_end : (xs : List ℕ) (i : ℕ) (w : List Claim) → length xs < 6 → checks T R w (nodes xs) i ≡ ended w i
  unfolding checks
  at_end xs i w h = ap (λ ns. checks T R w ns i) (nodes_none xs h)
