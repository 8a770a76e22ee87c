-- A writer's loop over the children of a node.
use Rattle.std.proofs.Common.{◌≡◌, ℕ, zero, suc, ◌+◌, ◌<◌, ◌≤◌, List, [], ◌∷◌, ◌++◌, length, get_or, take, sym, ap, ◌∙◌, subst, arith, length-append}
use Rattle.std.proofs.lemmas.List.{take_all}
use Rattle.mtl.specs.Lists.{AllOf}
use Rattle.mtl.specs.Claims.{claim}
use Rattle.mtl.specs.Claims.{Held, Broken}
use Rattle.mtl.specs.Tables.{lines_of}
use Rattle.mtl.specs.declared.line.Line.TheVariants.{Not}
use Rattle.mtl.specs.declared.ruling.Ruling.TheVariants.{Held as held, Broken as broken}
use Rattle.writer.specs.Tables.{Given}
use Rattle.writer.specs.declared.plan.Plan.{Plan}
use Rattle.writer.proofs.Found.{given_of}
use Rattle.writer.proofs.Named.{plan_says}
use Rattle.writer.specs.Ways.{Way, kids_of, Takes, Names}
use Rattle.writer.specs.Written.{node, Wrote, Short, cert_bytes, all_bytes}
use Rattle.mtl.specs.Lines.{Rules, line_at}
use Rattle.mtl.specs.Forms.{forms, Step, by}
use Rattle.mtl.specs.declared.line.Line.{Line}
use Rattle.mtl.specs.declared.row.Row.{Row}
use Rattle.mtl.specs.declared.ruling.Claim.{Claim}
use Rattle.mtl.specs.declared.ruling.Ruling.{Ruling}
use Rattle.writer.specs.Choice.{cell_in}
use Rattle.writer.proofs.Puts.{back_room, wrote_both, front_room}
use Rattle.writer.proofs.Stepping.{NextTo, by_way, by_not, named_held, named_broken}
use Rattle.writer.proofs.Joined.{all_more, all_room}

all_at : (P : Claim → Type 0) (cs : List Claim) (n : ℕ) (d : Claim) → AllOf P cs → n < length cs → P (get_or cs n d)
all_at P [] n d h l = absurd (omega arith)
all_at P (c ∷ cs) zero d h l = h.0
all_at P (c ∷ cs) (suc n) d h l = all_at P cs n d h.1 (omega arith)

abbrev rules : Plan → Rules
rules p = lines_of p.table.now

abbrev log : Plan → List Row
log p = p.rows.all.now

abbrev written : Plan → Claim → List ℕ
written p c = cert_bytes (rules p) (log p) c

abbrev all_written : Plan → List Claim → List ℕ
all_written p cs = all_bytes (rules p) (log p) cs

given : (p : Plan) → Given (rules p) (log p)
given p = given_of p.table.now (log p) p.rows.few p.rows.rising

-- a claim that has a certificate is of a line and a row that are there
pub there : (p : Plan) (c : Claim) → Short (rules p) (log p) c → (c.row < length (log p)) × (c.row < 128)
there p c s = let r = plan_says (rules p) p.table.now.formed (log p) p.rows.few c s in (r.2, omega (arith, r.2, p.rows.few))

-- the code and the line may be said another way
pub taken : (R : List Row) (i : ℕ) (r : Ruling) (v : Way) (code code' : ℕ) (x y : Line) → code ≡ code' → x ≡ y → Takes v r code (forms R i x) → Takes v r code' (forms R i y)
taken R i r v code code' x y e f t = subst (λ z. Takes v r z (forms R i y)) e (subst (λ z. Takes v r code (forms R i z)) f t)

-- the only step at a not
pub not_held : (p : Plan) (n i l : ℕ) (x : Line) → x ≡ line_at (rules p) n → x ≡ Not l →
    (s : Step) → Names held (cell_in p.codes.now (Held n i)) s (forms (log p) i (line_at (rules p) n)) → s ≡ by 3 (Broken l i ∷ [])
not_held p n i l x e f s m = named_held (log p) i l _ s (subst (λ y. Names held (cell_in p.codes.now (Held n i)) s (forms (log p) i y)) (sym e ∙ f) m)

pub not_broken : (p : Plan) (n i l : ℕ) (x : Line) → x ≡ line_at (rules p) n → x ≡ Not l →
    (s : Step) → Names broken (cell_in p.codes.now (Broken n i)) s (forms (log p) i (line_at (rules p) n)) → s ≡ by 4 (Held l i ∷ [])
not_broken p n i l x e f s m = named_broken (log p) i l _ s (subst (λ y. Names broken (cell_in p.codes.now (Broken n i)) s (forms (log p) i y)) (sym e ∙ f) m)

module _ (p : Plan) (c : Claim) (w : Short (rules p) (log p) c) where
  -- the one child of a not
  module _ (rule : ℕ) (k : Claim) (t : (s : Step) → Names c.ruling (cell_in p.codes.now c) s (forms (log p) c.row (line_at (rules p) c.line)) → s ≡ by rule (k ∷ [])) where
    parts : NextTo (rules p) (log p) c.line k × (written p c ≡ written p k ++ node c.line rule c.row 1)
    parts = by_not (rules p) (log p) (given p) p.codes.now p.filled c w rule k t

    pub not_next : Short (rules p) (log p) k × (k.line < c.line)
    not_next = parts.0

    module _ (o : List ℕ) (at : ℕ) (room : at + length (written p c) ≤ length o) where
      pub not_room : at + length (written p k) ≤ length o
      not_room = front_room (written p c) (written p k) (node c.line rule c.row 1) parts.1 o at room

      pub not_put : (q : List ℕ) (mid : ℕ) → Wrote o q at mid (written p k) → mid + 6 ≤ length q
      not_put q mid f = back_room (written p c) (written p k) (node c.line rule c.row 1) parts.1 o at room q mid f

      pub not_wrote : (q r : List ℕ) (mid end : ℕ) → Wrote o q at mid (written p k) → Wrote q r mid end (node c.line rule c.row 1) → Wrote o r at end (written p c)
      not_wrote q r mid end f g = wrote_both (written p c) (written p k) (node c.line rule c.row 1) parts.1 o at room q r mid end f g

  -- the children of another line, one by one
  module _ (v : Way) (t : Takes v c.ruling (cell_in p.codes.now c) (forms (log p) c.row (line_at (rules p) c.line))) where
    way : AllOf (NextTo (rules p) (log p) c.line) (kids_of c.ruling v) × (written p c ≡ all_written p (kids_of c.ruling v) ++ node c.line v.rule c.row (length (kids_of c.ruling v)))
    way = by_way (rules p) (log p) (given p) p.codes.now p.filled c w v t

    -- the child of a number
    module _ (n : ℕ) (d : Claim) (h : n < length (kids_of c.ruling v)) (e : d ≡ get_or (kids_of c.ruling v) n (claim 0 0 c.ruling)) where
      pub next_kid : Short (rules p) (log p) d × (d.line < c.line)
      next_kid = subst (NextTo (rules p) (log p) c.line) (sym e) (all_at (NextTo (rules p) (log p) c.line) (kids_of c.ruling v) n (claim 0 0 c.ruling) way.0 h)

    module _ (o q : List ℕ) (at end n : ℕ) (room : at + length (written p c) ≤ length o) (so_far : Wrote o q at end (all_written p (take n (kids_of c.ruling v)))) where
      module _ (d : Claim) (h : n < length (kids_of c.ruling v)) (e : d ≡ get_or (kids_of c.ruling v) n (claim 0 0 c.ruling)) where
        more : all_written p (take (n + 1) (kids_of c.ruling v)) ≡ all_written p (take n (kids_of c.ruling v)) ++ written p d
        more = all_more (rules p) (log p) (kids_of c.ruling v) n (claim 0 0 c.ruling) h ∙ ap (λ x. all_written p (take n (kids_of c.ruling v)) ++ written p x) (sym e)

        fits : at + length (all_written p (take (n + 1) (kids_of c.ruling v))) ≤ length o
        fits = omega (arith, all_room (rules p) (log p) (kids_of c.ruling v) (n + 1), ap length way.1 ∙ length-append (all_written p (kids_of c.ruling v)) (node c.line v.rule c.row (length (kids_of c.ruling v))))

        pub next_room : end + length (written p d) ≤ length q
        next_room = back_room (all_written p (take (n + 1) (kids_of c.ruling v))) (all_written p (take n (kids_of c.ruling v))) (written p d) more o at fits q end so_far

        pub next_wrote : (m : ℕ) → n + 1 ≡ m → (r : List ℕ) (to : ℕ) → Wrote q r end to (written p d) → Wrote o r at to (all_written p (take m (kids_of c.ruling v)))
        next_wrote m l r to g = subst (λ m. Wrote o r at to (all_written p (take m (kids_of c.ruling v)))) l (wrote_both (all_written p (take (n + 1) (kids_of c.ruling v))) (all_written p (take n (kids_of c.ruling v))) (written p d) more o at fits q r end to so_far g)

      module _ (h : length (kids_of c.ruling v) ≤ n) where
        all_of : written p c ≡ all_written p (take n (kids_of c.ruling v)) ++ node c.line v.rule c.row (length (kids_of c.ruling v))
        all_of = way.1 ∙ ap (λ xs. all_written p xs ++ node c.line v.rule c.row (length (kids_of c.ruling v))) (sym (take_all n (kids_of c.ruling v) h))

        pub last_room : end + 6 ≤ length q
        last_room = back_room (written p c) (all_written p (take n (kids_of c.ruling v))) (node c.line v.rule c.row (length (kids_of c.ruling v))) all_of o at room q end so_far

        pub last_wrote : (r : List ℕ) (to size : ℕ) → size ≡ length (kids_of c.ruling v) → Wrote q r end to (node c.line v.rule c.row size) → Wrote o r at to (written p c)
        last_wrote r to size e g =
            wrote_both (written p c) (all_written p (take n (kids_of c.ruling v))) (node c.line v.rule c.row (length (kids_of c.ruling v))) all_of o at room q r end to so_far
            (subst (λ x. Wrote q r end to (node c.line v.rule c.row x)) e g)
