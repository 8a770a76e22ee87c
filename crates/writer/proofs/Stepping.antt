-- What the writers write at a node, by the way that the plan names.
use Rattle.std.proofs.Common.{◌≡◌, ℕ, ◌<◌, List, [], ◌∷◌, ◌++◌, length, None, sym, refl, ap, ◌∙◌, subst, arith}
use Rattle.mtl.specs.Lists.{AllOf}
use Rattle.mtl.specs.declared.line.Line.{Line}
use Rattle.mtl.specs.declared.line.Line.TheVariants.{Mark, Not, And, Or, Previous, Next, Since, Until}
use Rattle.writer.specs.Ways.{Way, kids_of, Names, by_this, by_later, Takes, neg_of}
use Rattle.writer.specs.Written.{node, Short, Planned, cert_bytes, all_bytes}
use Rattle.writer.specs.Tables.{Given}
use Rattle.mtl.specs.Lines.{Rules, line_at}
use Rattle.mtl.proofs.Operands.{earlier_at}
use Rattle.mtl.specs.Claims.{Held, Broken}
use Rattle.mtl.specs.Forms.{Step, by, Form, forms}
use Rattle.mtl.specs.declared.row.Row.{Row}
use Rattle.mtl.specs.declared.ruling.Claim.{Claim}
use Rattle.mtl.specs.declared.ruling.Ruling.{Ruling}
use Rattle.mtl.specs.declared.ruling.Ruling.TheVariants.{Held as held, Broken as broken}
use Rattle.writer.proofs.Right.{below}
use Rattle.writer.proofs.Named.{plan_says}
use Rattle.writer.proofs.Joined.{made, all_one}
use Rattle.writer.proofs.Taking.{unheld, unbroken}
use Rattle.writer.specs.Choice.{cell_in}

kids_below : (P : Claim → Type 0) (r : Ruling) (code : ℕ) (s : Step) (fs : List Form) → Names r code s fs →
    AllOf (λ (f : Form). (j : ℕ) → AllOf P (f.kids j)) fs → AllOf P s.kids
kids_below P r code s [] n h = elim n [ ]
kids_below P r code s (f ∷ fs) (by_this j u a o b k q) h = subst (λ (t : Step). AllOf P t.kids) (sym q) (h.0 j)
kids_below P r code s (f ∷ fs) (by_later n) h = kids_below P r code s fs n h.1

-- a child that a writer can go on to
abbrev pub NextTo : Rules → List Row → ℕ → Claim → Type 0
NextTo T R n k = Short T R k × (k.line < n)

kids_next : (T : Rules) (R : List Row) (n : ℕ) (cs : List Claim) → AllOf (Short T R) cs → AllOf (λ (k : Claim). k.line < n) cs → AllOf (NextTo T R n) cs
kids_next T R n [] a b = tt
kids_next T R n (k ∷ ks) a b = ((a.0, b.0), kids_next T R n ks a.1 b.1)

module _ (T : Rules) (R : List Row) (g : Given T R) (plan : List ℕ) (codes : Planned T R plan) (c : Claim) (w : Short T R c) where
  -- what is written by a step: its children, all of earlier lines, and then its node
  abbrev Done : Step → Type 0
  Done s = AllOf (NextTo T R c.line) s.kids × (cert_bytes T R c ≡ all_bytes T R s.kids ++ node c.line s.rule c.row (length s.kids))

  -- the step that the plan names at the claim's cell
  step_at : (s : Step) × Names c.ruling (cell_in plan c) s (forms R c.row (line_at T c.line)) × Done s
  step_at =
      let r = plan_says T g.ordered R g.few_rows c w in
      let n = subst (λ x. Names c.ruling x r.0 (forms R c.row (line_at T c.line))) (sym (codes c (omega (arith, r.1, g.few_lines)) (omega (arith, r.2, g.few_rows)))) r.3 in
      let m = made T g.ordered R c r.0 w r.4 in
      let b = kids_below (λ (k : Claim). k.line < c.line) c.ruling (cell_in plan c) r.0 (forms R c.row (line_at T c.line)) n
      (below R c.row c.line (line_at T c.line) (earlier_at T g.ordered c.line r.1)) in
      (r.0, n, (kids_next T R c.line r.0.kids m.0 b, m.1))

  pub by_way : (v : Way) → Takes v c.ruling (cell_in plan c) (forms R c.row (line_at T c.line)) → Done (by v.rule (kids_of c.ruling v))
  by_way v t = let r = step_at in subst Done (t r.0 r.1) r.2

  pub by_not : (rule : ℕ) (k : Claim) → ((s : Step) → Names c.ruling (cell_in plan c) s (forms R c.row (line_at T c.line)) → s ≡ by rule (k ∷ [])) →
      NextTo T R c.line k × (cert_bytes T R c ≡ cert_bytes T R k ++ node c.line rule c.row 1)
  by_not rule k t =
      let r = step_at in
      let z = subst Done (t r.0 r.1) r.2 in
      (z.0.0, z.1 ∙ ap (λ xs. xs ++ node c.line rule c.row 1) (all_one T R k))

-- the only ways to rule a not
pub named_held : (R : List Row) (i l code : ℕ) (s : Step) → Names held code s (forms R i (Not l)) → s ≡ by 3 (Broken l i ∷ [])
unfolding forms
named_held R i l code s (by_this j u a o b k q) = q
named_held R i l code s (by_later (by_this j u a o b k q)) = absurd (unheld u)
named_held R i l code s (by_later (by_later n)) = elim n [ ]

pub named_broken : (R : List Row) (i l code : ℕ) (s : Step) → Names broken code s (forms R i (Not l)) → s ≡ by 4 (Held l i ∷ [])
unfolding forms
named_broken R i l code s (by_this j u a o b k q) = absurd (unbroken u)
named_broken R i l code s (by_later (by_this j u a o b k q)) = q
named_broken R i l code s (by_later (by_later n)) = elim n [ ]

-- a line that is no not has no operand of one
pub no_not : (x : Line) → ((l : ℕ) → x ≡ Not l → ⊥) → neg_of x ≡ None
no_not (Mark m) h = refl
no_not (Not l) h = absurd (h l refl)
no_not (And a b) h = refl
no_not (Or a b) h = refl
no_not (Previous v a) h = refl
no_not (Next v a) h = refl
no_not (Since v a b) h = refl
no_not (Until v a b) h = refl
