-- The bytes of a certificate, from those of its children.
use Rattle.std.proofs.Common.{◌≡◌, ℕ, ◌+◌, ◌/◌, ◌%◌, ◌<◌, ◌≤◌, min, List, [], ◌∷◌, ◌++◌, length, get_or, take, drop, Some, None, Option, sym, refl, ap, ◌∙◌, subst, ap₂, append_assoc, append-nil, arith, length-append, take-append-drop}
use Rattle.writer.specs.Written.{node, Short, bytes_in, cert_bytes, all_bytes}
use Rattle.mtl.specs.Lines.{Rules, WellFormed}
use Rattle.mtl.specs.Certificates.{node_of}
use Rattle.mtl.specs.Lists.{AllOf}
use Rattle.mtl.specs.Forms.{Step, steps}
use Rattle.mtl.specs.Shortest.{chained, of_all, certificate, attempt}
use Rattle.mtl.specs.Cells.{cell}
use Rattle.mtl.specs.Bytes.{bytes}
use Rattle.mtl.specs.declared.row.Row.{Row}
use Rattle.mtl.specs.declared.ruling.Claim.{Claim}
use Rattle.mtl.specs.declared.ruling.Node.{Node}
use Rattle.mtl.proofs.Filled.{certificate_at, filled_any, Filled}
use Rattle.std.proofs.lemmas.List.{take_more}

bytes_both : (a b : List Node) → bytes (a ++ b) ≡ bytes a ++ bytes b
bytes_both [] b = refl
bytes_both (d ∷ ds) b = ap (λ xs. d.line ∷ d.rule ∷ d.row / 256 ∷ d.row % 256 ∷ d.count / 256 ∷ d.count % 256 ∷ xs) (bytes_both ds b)

module _ (T : Rules) (wf : WellFormed T) (R : List Row) where
  -- no certificate is empty
  pub nonempty : (c : Claim) → Filled (certificate T R c)
  nonempty c = subst Filled (sym (certificate_at T wf R c)) (filled_any (certificate T R) c (steps T R c))

  -- certificates that stand one after another, each by itself
  parts : (cs : List Claim) (ns : List Node) → of_all (certificate T R) cs ≡ Some ns → length ns ≤ 4096 → AllOf (Short T R) cs × (bytes ns ≡ all_bytes T R cs)
  unfolding of_all all_bytes cert_bytes
  parts [] ns e h = (tt, let z : [] ≡ ns = cc in ap bytes (sym z))
  parts (c ∷ cs) ns e h = go (certificate T R c) (of_all (certificate T R) cs) refl refl (nonempty c) e (λ b q l. parts cs b q l)
    where
      go : (o p : Option (List Node)) → certificate T R c ≡ o → of_all (certificate T R) cs ≡ p → Filled o → chained o p ≡ Some ns →
          ((b : List Node) → of_all (certificate T R) cs ≡ Some b → length b ≤ 4096 → AllOf (Short T R) cs × (bytes b ≡ all_bytes T R cs)) →
          (Short T R c × AllOf (Short T R) cs) × (bytes ns ≡ bytes_in (certificate T R c) ++ all_bytes T R cs)
      go None p q r f e ih = let z : ◌≡◌ {A = ℕ} 0 1 = cc in absurd (omega arith)
      go (Some a) None q r f e ih = let z : ◌≡◌ {A = ℕ} 0 1 = cc in absurd (omega arith)
      go (Some a) (Some b) q r f e ih =
          let z : a ++ b ≡ ns = cc in
          let n : length a + length b ≡ length ns = sym (length-append a b) ∙ ap length z in
          let k = ih b r (omega arith) in (
            (subst (λ x. (1 ≤ cell x) × (cell x ≤ 4096)) (sym q) (omega arith, omega arith), k.0),
            ap bytes (sym z) ∙ bytes_both a b ∙ ap₂ ◌++◌ (ap bytes_in (sym q)) k.1,
          )

  -- the certificate that a step makes
  pub made : (c : Claim) (s : Step) → Short T R c → certificate T R c ≡ attempt (certificate T R) c s →
      AllOf (Short T R) s.kids × (cert_bytes T R c ≡ all_bytes T R s.kids ++ node c.line s.rule c.row (length s.kids))
  unfolding cert_bytes
  made c s h e = go (of_all (certificate T R) s.kids) refl e
    where
      d : Node
      d = node_of s.rule c s.kids

      go : (o : Option (List Node)) → of_all (certificate T R) s.kids ≡ o → certificate T R c ≡ chained o (Some (d ∷ [])) →
          AllOf (Short T R) s.kids × (bytes_in (certificate T R c) ≡ all_bytes T R s.kids ++ node c.line s.rule c.row (length s.kids))
      go None q e = let z : cell (certificate T R c) ≡ 0 = ap cell e in absurd (omega (arith, h.0))
      go (Some ns) q e =
          let z : cell (certificate T R c) ≡ min (length (ns ++ (d ∷ []))) 4097 = ap cell e in
          let n = length-append ns (d ∷ []) in
          let k = parts s.kids ns q (omega (arith, h.1)) in
          (k.0, ap bytes_in e ∙ bytes_both ns (d ∷ []) ∙ ap (λ xs. xs ++ node c.line s.rule c.row (length s.kids)) k.1)

-- one claim after another
all_both : (T : Rules) (R : List Row) (cs ds : List Claim) → all_bytes T R (cs ++ ds) ≡ all_bytes T R cs ++ all_bytes T R ds
unfolding all_bytes
all_both T R [] ds = refl
all_both T R (c ∷ cs) ds = ap (λ xs. cert_bytes T R c ++ xs) (all_both T R cs ds) ∙ sym (append_assoc (cert_bytes T R c) (all_bytes T R cs) (all_bytes T R ds))

pub all_none : (T : Rules) (R : List Row) → all_bytes T R [] ≡ []
unfolding all_bytes
all_none T R = refl

pub all_one : (T : Rules) (R : List Row) (c : Claim) → all_bytes T R (c ∷ []) ≡ cert_bytes T R c
unfolding all_bytes
all_one T R c = append-nil (cert_bytes T R c)

pub all_more : (T : Rules) (R : List Row) (cs : List Claim) (n : ℕ) (d : Claim) → n < length cs →
    all_bytes T R (take (n + 1) cs) ≡ all_bytes T R (take n cs) ++ cert_bytes T R (get_or cs n d)
all_more T R cs n d h =
    ap (all_bytes T R) (take_more cs n d h) ∙ all_both T R (take n cs) (get_or cs n d ∷ []) ∙ ap (λ xs. all_bytes T R (take n cs) ++ xs) (all_one T R (get_or cs n d))

-- what the first n claims take is within what all of them take
pub all_room : (T : Rules) (R : List Row) (cs : List Claim) (n : ℕ) → length (all_bytes T R (take n cs)) ≤ length (all_bytes T R cs)
all_room T R cs n =
    let e = ap (λ xs. length (all_bytes T R xs)) (sym (take-append-drop n cs)) ∙ ap length (all_both T R (take n cs) (drop n cs)) ∙
    length-append (all_bytes T R (take n cs)) (all_bytes T R (drop n cs)) in
    omega arith
