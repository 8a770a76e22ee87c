use Rattle.std.proofs.Common.{◌≡◌, ℕ, zero, suc, ◌<◌, ◌≤◌, Bool, true, false, cond, not, T as Yes, leb, ◌⊎◌, List, [], ◌∷◌, ◌++◌, length, Some, None, Option, sym, refl, ap, ◌∙◌, subst, inl, inr, arith, leb→le, length-append}
use lib.Dec.{nleb→lt}
use Rattle.mtl.specs.Certificates.{node_of, Cert, Certs, node, none, more}
use Rattle.mtl.specs.Claims.{Claim, Ruling, held, broken, Node, each}
use Rattle.mtl.specs.Follows.{Follows, rule_1, rule_2, rule_3, rule_4, rule_5, rule_6, rule_7, rule_8, rule_9, rule_10, rule_11, rule_12, rule_13, rule_14, rule_15, rule_16, rule_17, rule_18, rule_19, rule_20, rule_21, rule_22, rule_23, rule_24, rule_25, rule_26, LineIs}
use Rattle.mtl.specs.Forms.{Step, steps}
use Rattle.mtl.specs.Lines.{Line, Rules, WellFormed}
use Rattle.mtl.specs.Rows.{Row}
use Rattle.mtl.specs.Shortest.{chained, shorter, of_all, of_any, written, certificate, Best}
use Rattle.mtl.specs.Lists.{AllOf, AnyOf, here, there}
use Rattle.mtl.proofs.Lists.{all_weaken}
use Rattle.mtl.proofs.Operands.{Earlier, earlier_at}
use Rattle.mtl.proofs.Ways.{good as steps_follow, found}

-- P of the one and Q of the other, one after another
abbrev Joined : (P Q : List Node → Type 0) → List Node → Type 0
Joined P Q ns = (a : List Node) × (b : List Node) × P a × Q b × (a ++ b ≡ ns)

best_same : (P Q : List Node → Type 0) (o : Option (List Node)) → ((ns : List Node) → P ns → Q ns) → ((ns : List Node) → Q ns → P ns) → Best P o → Best Q o
best_same P Q None f g h = λ ns q. h ns (g ns q)
best_same P Q (Some a) f g h = (f a h.0, λ ns q. h.1 ns (g ns q))

best_joined : (P Q : List Node → Type 0) (o p : Option (List Node)) → Best P o → Best Q p → Best (Joined P Q) (chained o p)
best_joined P Q None p h k = λ ns q. h q.0 q.2
best_joined P Q (Some a) None h k = λ ns q. k q.1 q.3
best_joined P Q (Some a) (Some b) h k = (
  (a, b, h.0, k.0, refl),
  λ ns q.
      let x = h.1 q.0 q.2 in let y = k.1 q.1 q.3 in let z = length-append a b in let u = length-append q.0 q.1 in
      let v = ap length q.4 in omega arith,
)

best_either : (P Q : List Node → Type 0) (o p : Option (List Node)) → Best P o → Best Q p → Best (λ ns. P ns ⊎ Q ns) (shorter o p)
best_either P Q None None h k = λ ns q. elim q [ inl x ↦ h ns x | inr y ↦ k ns y ]
best_either P Q None (Some b) h k = (inr k.0, λ ns q. elim q [ inl x ↦ absurd (h ns x) | inr y ↦ k.1 ns y ])
best_either P Q (Some a) None h k = (inl h.0, λ ns q. elim q [ inl x ↦ h.1 ns x | inr y ↦ absurd (k ns y) ])
best_either P Q (Some a) (Some b) h k = go (leb (length a) (length b)) (leb→le _ _) (nleb→lt _ _)
  where
    go : (t : Bool) → (Yes t → length a ≤ length b) → (Yes (not t) → length b < length a) → Best (λ ns. P ns ⊎ Q ns) (cond t (Some a) (Some b))
    go true f g = (inl h.0, λ ns q. elim q [ inl x ↦ h.1 ns x | inr y ↦ let z = k.1 ns y in let u = f tt in omega arith ])
    go false f g = (inr k.0, λ ns q. elim q [ inl x ↦ let z = h.1 ns x in let u = g tt in omega arith | inr y ↦ k.1 ns y ])

before : (T : Rules) → WellFormed T → (n : ℕ) (l : Line) → LineIs T n l → Earlier n l
before T wf n l at = subst (Earlier n) at.is (earlier_at T wf n at.within)

each_line : (r : Ruling) {l n : ℕ} → l < n → (ks : List ℕ) → AllOf (λ (k : Claim). k.line < n) (each r l ks)
each_line r h [] = tt
each_line r h (k ∷ ks) = (h, each_line r h ks)

-- children stand on earlier lines
pub lower : (T : Rules) → WellFormed T → (R : List Row) {rule : ℕ} {c : Claim} {kids : List Claim} → Follows T R rule c kids → AllOf (λ k. k.line < c.line) kids
lower T wf R (rule_1 at lt s) = tt
lower T wf R (rule_2 at lt s) = tt
lower T wf R (rule_3 {n = n} at lt) = (before T wf n _ at, tt)
lower T wf R (rule_4 {n = n} at lt) = (before T wf n _ at, tt)
lower T wf R (rule_5 {n = n} at lt) = ((before T wf n _ at).0, ((before T wf n _ at).1, tt))
lower T wf R (rule_6 {n = n} at lt) = ((before T wf n _ at).0, tt)
lower T wf R (rule_7 {n = n} at lt) = ((before T wf n _ at).1, tt)
lower T wf R (rule_8 {n = n} at lt) = ((before T wf n _ at).0, tt)
lower T wf R (rule_9 {n = n} at lt) = ((before T wf n _ at).1, tt)
lower T wf R (rule_10 {n = n} at lt) = ((before T wf n _ at).0, ((before T wf n _ at).1, tt))
lower T wf R (rule_11 {n = n} at lt _ _) = (before T wf n _ at, tt)
lower T wf R (rule_12 {n = n} at lt _) = (before T wf n _ at, tt)
lower T wf R (rule_13 at lt _ _) = tt
lower T wf R (rule_14 at lt _ _) = tt
lower T wf R (rule_15 at lt _) = tt
lower T wf R (rule_16 {n = n} at lt _) = (before T wf n _ at, tt)
lower T wf R (rule_17 {n = n} at lt) = (before T wf n _ at, tt)
lower T wf R (rule_18 at lt _) = tt
lower T wf R (rule_19 at lt _) = tt
lower T wf R (rule_20 {n = n} at lt _ _) = ((before T wf n _ at).1, each_line held (before T wf n _ at).0 _)
lower T wf R (rule_21 {n = n} at lt _ _ _ _) = ((before T wf n _ at).0, each_line broken (before T wf n _ at).1 _)
lower T wf R (rule_22 {n = n} at lt _) = each_line broken (before T wf n _ at).1 _
lower T wf R (rule_23 at lt _) = tt
lower T wf R (rule_24 {n = n} at lt _ _) = ((before T wf n _ at).1, each_line held (before T wf n _ at).0 _)
lower T wf R (rule_25 {n = n} at lt _ _) = ((before T wf n _ at).0, each_line broken (before T wf n _ at).1 _)
lower T wf R (rule_26 {n = n} at lt _) = each_line broken (before T wf n _ at).1 _

module _ (T : Rules) (R : List Row) where
  pub best_kids : (f : Claim → Option (List Node)) (cs : List Claim) → AllOf (λ c. Best (Cert T R c) (f c)) cs → Best (Certs T R cs) (of_all f cs)
  unfolding of_all
  best_kids f [] h = (none, λ ns q. omega arith)
  best_kids f (c ∷ cs) h =
      best_same (Joined (Cert T R c) (Certs T R cs)) (Certs T R (c ∷ cs)) (chained (f c) (of_all f cs)) into out
      (best_joined (Cert T R c) (Certs T R cs) (f c) (of_all f cs) h.0 (best_kids f cs h.1))
    where
      into : (ns : List Node) → Joined (Cert T R c) (Certs T R cs) ns → Certs T R (c ∷ cs) ns
      into ns q = subst (λ x. Certs T R (c ∷ cs) x) q.4 (more q.2 q.3)

      out : (ns : List Node) → Certs T R (c ∷ cs) ns → Joined (Cert T R c) (Certs T R cs) ns
      out ns (more d ds) = (_, _, d, ds, refl)

  -- a certificate of c that ends by the step
  abbrev Via : Claim → List Node → Step → Type 0
  Via c ns s = (ms : List Node) × Certs T R s.kids ms × (ms ++ (node_of s.rule c s.kids ∷ []) ≡ ns)

  best_steps : (f : Claim → Option (List Node)) (c : Claim) (ss : List Step) → AllOf (λ s. AllOf (λ k. Best (Cert T R k) (f k)) s.kids) ss →
      Best (λ ns. AnyOf (Via c ns) ss) (of_any f c ss)
  unfolding of_any
  best_steps f c [] h = λ ns q. elim q [ ]
  best_steps f c (s ∷ ss) h =
      best_same (λ ns. Joined (Certs T R s.kids) (λ b. b ≡ last) ns ⊎ AnyOf (Via c ns) ss) (λ ns. AnyOf (Via c ns) (s ∷ ss))
      (shorter (chained (of_all f s.kids) (Some last)) (of_any f c ss)) into out
      (best_either _ _ (chained (of_all f s.kids) (Some last)) (of_any f c ss)
      (best_joined _ (λ b. b ≡ last) (of_all f s.kids) (Some last) (best_kids f s.kids h.0) (refl, λ ns e. let z = ap length e in omega arith))
      (best_steps f c ss h.1))
    where
      last : List Node
      last = node_of s.rule c s.kids ∷ []

      into : (ns : List Node) → Joined (Certs T R s.kids) (λ b. b ≡ last) ns ⊎ AnyOf (Via c ns) ss → AnyOf (Via c ns) (s ∷ ss)
      into ns q = elim q [ inl x ↦ here (x.0, x.2, ap (λ y. x.0 ++ y) (sym x.3) ∙ x.4) | inr y ↦ there y ]

      out : (ns : List Node) → AnyOf (Via c ns) (s ∷ ss) → Joined (Certs T R s.kids) (λ b. b ≡ last) ns ⊎ AnyOf (Via c ns) ss
      out ns (here v) = inl (v.0, last, v.1, refl, v.2)
      out ns (there y) = inr y

  cert_via : (c : Claim) (ns : List Node) → Cert T R c ns → AnyOf (Via c ns) (steps T R c)
  cert_via c ns (node f cs) = found T R f (Via c ns) (_, cs, refl)

  via_cert : (c : Claim) (ns : List Node) (ss : List Step) → AllOf (λ s. Follows T R s.rule c s.kids) ss → AnyOf (Via c ns) ss → Cert T R c ns
  via_cert c ns [] h v = elim v [ ]
  via_cert c ns (s ∷ ss) h (here v) = subst (λ x. Cert T R c x) v.2 (node h.0 v.1)
  via_cert c ns (s ∷ ss) h (there v) = via_cert c ns ss h.1 v

  pub best_written : WellFormed T → (d : ℕ) (c : Claim) → c.line < d → Best (Cert T R c) (written T R d c)
  unfolding written
  best_written wf zero c lt = absurd (omega arith)
  best_written wf (suc d) c lt =
      best_same (λ ns. AnyOf (Via c ns) (steps T R c)) (Cert T R c) (of_any (written T R d) c (steps T R c))
      (λ ns. via_cert c ns (steps T R c) (steps_follow T R c)) (λ ns. cert_via c ns)
      (best_steps (written T R d) c (steps T R c)
      (all_weaken _ _ (steps T R c) (λ s f. all_weaken (λ (k : Claim). k.line < c.line) _ s.kids (λ k l. best_written wf d k (omega arith)) (lower T wf R f)) (steps_follow T R c)))

  pub best_certificate : WellFormed T → (c : Claim) → Best (Cert T R c) (certificate T R c)
  unfolding certificate
  best_certificate wf c = best_written wf (suc c.line) c (omega arith)
