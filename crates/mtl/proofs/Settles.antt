-- What the answers of Check and Settle say of certificates.
use Rattle.std.proofs.Common.{◌≡◌, ℕ, ◌*◌, ◌<◌, ◌≤◌, leb, ◌⊎◌, List, [], ◌∷◌, length, Some, None, Ok, Err, Option, Result, sym, refl, ap, ◌∙◌, subst, inl, inr, arith, le→leb, ltb→lt, lt→ltb, leb→le}
use Rattle.mtl.specs.Bytes.{nodes, bytes}
use Rattle.mtl.specs.Certificates.{Cert, node, Certified}
use Rattle.mtl.specs.Checking.{accepted, check_answer}
use Rattle.mtl.specs.Claims.{Claim, Ruling, held, broken, Held, Broken, Node, claim}
use Rattle.mtl.specs.Formulas.{formula}
use Rattle.mtl.specs.Lines.{Rules, WellFormed}
use Rattle.mtl.specs.Questions.{first_no, answer, FirstNot}
use Rattle.mtl.specs.Reach.{Reach}
use Rattle.mtl.specs.Rows.{Row, NeverFalls}
use Rattle.mtl.specs.Settling.{Settlement, one_of, settlement, Lengths, any, proof_of, ruling_of, Settled, settle_questions, settle_by, settle_answer, settle_writes, SomeCertificate, SettleAsks}
use Rattle.mtl.specs.Shortest.{certificate, Best}
use Rattle.mtl.proofs.Asked.{yes_all, Test, first_not}
use Rattle.mtl.proofs.Checks.{formed}
use Rattle.mtl.proofs.Complete.{complete}
use Rattle.mtl.proofs.Consistent.{one_ruling}
use Rattle.mtl.proofs.Shortest.{best_certificate}
use Rattle.mtl.specs.Laws.{SettleSays}
use Rattle.mtl.proofs.Sound.{sound}
use Rattle.mtl.proofs.Encoding.{length_bytes, length_nodes}
use Rattle.mtl.proofs.Exact.{check_bytes, accepted_certificate}
use Rattle.mtl.proofs.Tests.{both, fst_of, snd_of}

-- the settlement is a certificate of least size for the one ruling that has any
abbrev pub Settles : Rules → List Row → ℕ → ℕ → Option Settlement → Type 0
Settles T R n i None = (r : Ruling) (ns : List Node) → Cert T R (claim n i r) ns → ⊥
Settles T R n i (Some s) =
    Cert T R (claim n i s.ruling) s.proof ×
    ((r : Ruling) (ns : List Node) → Cert T R (claim n i r) ns → (r ≡ s.ruling) × (length s.proof ≤ length ns))

-- an accepted Settle: its settlement
pub record Ruled (T : Rules) (R : List Row) (n i : ℕ) (s : Settled) : Type 0 where
  pub proof : List Node
  pub cert : Cert T R (claim n i s.ruling) proof
  pub sized : length proof ≡ s.size
  pub least : (ns : List Node) → Cert T R (claim n i s.ruling) ns → s.size ≤ length ns
  pub few : s.size ≤ 4096
  pub writes : settle_writes T R n i (Ok s) ≡ bytes proof

module _ (T : Rules) (R : List Row) (wf : WellFormed T) (up : NeverFalls R) (n i : ℕ) where
  settles : Settles T R n i (settlement T R n i)
  unfolding settlement
  settles = go (certificate T R (Held n i)) (certificate T R (Broken n i)) (best_certificate T R wf (Held n i)) (best_certificate T R wf (Broken n i))
    where
      go : (o p : Option (List Node)) → Best (Cert T R (Held n i)) o → Best (Cert T R (Broken n i)) p → Settles T R n i (one_of o p)
      go (Some ns) p b c = (b.0, pick)
        where
          pick : (r : Ruling) (ms : List Node) → Cert T R (claim n i r) ms → (r ≡ held) × (length ns ≤ length ms)
          pick held ms h = (refl, b.1 ms h)
          pick broken ms h = absurd (one_ruling T wf R up n i (ns, b.0) (ms, h))
      go None (Some ns) b c = (c.0, pick)
        where
          pick : (r : Ruling) (ms : List Node) → Cert T R (claim n i r) ms → (r ≡ broken) × (length ns ≤ length ms)
          pick held ms h = absurd (b ms h)
          pick broken ms h = (refl, c.1 ms h)
      go None None b c = pick
        where
          pick : (r : Ruling) (ms : List Node) → Cert T R (claim n i r) ms → ⊥
          pick held ms h = b ms h
          pick broken ms h = c ms h

  answered : {A : Type 0} (o : Option ℕ) (a b : A) → answer o a ≡ Ok b → (o ≡ None) × (a ≡ b)
  answered None a b e = (refl, (cc))
  answered (Some q) a b e = cc

  refuses : {A : Type 0} (o : Option ℕ) (a : A) (q : ℕ) → answer o a ≡ Err q → o ≡ Some q
  refuses None a q e = cc
  refuses (Some p) a q e = cc

  pub ruled : (s : Settled) (ls : Lengths) → settle_answer T R n i ls ≡ Ok s → Ruled T R n i s
  unfolding settle_answer settle_writes
  ruled s ls e = go (settlement T R n i) refl settles e
    where
      go : (o : Option Settlement) → settlement T R n i ≡ o → Settles T R n i o → settle_by T R n i ls o ≡ Ok s → Ruled T R n i s
      go None w k e = let a = answered (first_no (settle_questions T R n i ls None)) (record { ruling = held; size = 0 }) s e in
          absurd (yes_all (settle_questions T R n i ls None) a.0).1.1.1.0
      go (Some d) w k e =
          let a = answered (first_no (settle_questions T R n i ls (Some d))) (record { ruling = d.ruling; size = length d.proof }) s e in
          let ys = yes_all (settle_questions T R n i ls (Some d)) a.0 in
          let z : length d.proof ≡ s.size = ap (λ (x : Settled). x.size) a.1 in
          let r : d.ruling ≡ s.ruling = ap (λ (x : Settled). x.ruling) a.1 in
          let f : length d.proof ≤ 4096 = leb→le _ _ ys.1.1.1.1.0 in
          record {
            proof = d.proof;
            cert = subst (λ x. Cert T R (claim n i x) d.proof) r k.0;
            sized = z;
            least = λ ns h. let m = (k.1 s.ruling ns h).1 in omega arith;
            few = omega arith;
            writes = ap (λ x. bytes (proof_of x)) w;
          }

  pub asks : (ls : Lengths) (q : ℕ) → settle_answer T R n i ls ≡ Err q → FirstNot (SettleAsks T R n i ls) q
  unfolding settle_answer
  asks ls q e = go (settlement T R n i) settles e
    where
      go : (o : Option Settlement) → Settles T R n i o → settle_by T R n i ls o ≡ Err q → FirstNot (SettleAsks T R n i ls) q
      go o k e = first_not (settle_questions T R n i ls o) (SettleAsks T R n i ls) q (
        refl,
        ltb→lt _ _,
        lt→ltb _ _,
        λ _. (
          refl,
          ltb→lt _ _,
          lt→ltb _ _,
          λ _. (
            refl,
            (λ t. (leb→le 8192 ls.sizes (fst_of (leb 8192 ls.sizes) (leb 8192 ls.plan) t), leb→le 8192 ls.plan (snd_of (leb 8192 ls.sizes) (leb 8192 ls.plan) t))),
            (λ h. both (leb 8192 ls.sizes) (leb 8192 ls.plan) (le→leb _ _ h.0) (le→leb _ _ h.1)),
            λ _. tests o k,
          ),
        ),
      )
          (refuses (first_no (settle_questions T R n i ls o)) (record { ruling = ruling_of o; size = length (proof_of o) }) q e)
        where
          tests : (o : Option Settlement) → Settles T R n i o →
              Test ((24, any o) ∷ (25, leb (length (proof_of o)) 4096) ∷ (26, leb (6 * length (proof_of o)) ls.out) ∷ [])
              ((24, SomeCertificate T R n i (λ size. Unit {0})) ∷ (25, SomeCertificate T R n i (λ size. size ≤ 4096)) ∷ (26, SomeCertificate T R n i (λ size. 6 * size ≤ ls.out)) ∷ [])
          tests None k = (refl, (λ t. absurd t), (λ h. k h.0 h.1 h.2), (λ h. absurd (k h.0 h.1 h.2)))
          tests (Some d) k = (
            refl,
            (λ t. (d.ruling, d.proof, k.0, tt)),
            (λ h. tt),
            λ _. (
              refl,
              (λ t. (d.ruling, d.proof, k.0, leb→le _ _ t)),
              (λ h. let m = (k.1 h.0 h.1 h.2).1 in let z = h.3 in le→leb _ _ (omega arith)),
              λ _.
                  (refl, (λ t. (d.ruling, d.proof, k.0, leb→le _ _ t)), (λ h. let m = (k.1 h.0 h.1 h.2).1 in let z = h.3 in le→leb _ _ (omega arith)), λ _. tt),
            ),
          )

  -- in reach, Settle does not answer open
  pub in_reach : (ls : Lengths) → Reach R (formula T n) i → settle_answer T R n i ls ≡ Err 24 → ⊥
  in_reach ls reach e = go (asks ls 24 e)
    where
      some : Certified T R (Held n i) ⊎ Certified T R (Broken n i) → SomeCertificate T R n i (λ size. Unit {0})
      some (inl h) = (held, h.0, h.1, tt)
      some (inr h) = (broken, h.0, h.1, tt)

      go : FirstNot (SettleAsks T R n i ls) 24 → ⊥
      go (inl (z, f)) = absurd (omega arith)
      go (inr (a, inl (z, f))) = absurd (omega arith)
      go (inr (a, inr (b, inl (z, f)))) = absurd (omega arith)
      go (inr (a, inr (b, inr (c, inl (z, f))))) = f (some (complete T R up wf n a i b reach))
      go (inr (a, inr (b, inr (c, inr (d, inl (z, f)))))) = absurd (omega arith)
      go (inr (a, inr (b, inr (c, inr (d, inr (g, inl (z, f))))))) = absurd (omega arith)
      go (inr (a, inr (b, inr (c, inr (d, inr (g, inr (h, u))))))) = absurd u

-- a certified claim's line is in the table, and its row in the log
pub cert_within : {T : Rules} {R : List Row} {c : Claim} {ns : List Node} → Cert T R c ns → (c.line < length T) × (c.row < length R)
cert_within {T = T} {R = R} (node f cs) = let h = formed T R f in (h.line_in, h.row_in)

-- what an answer of Settle says
pub settle_says :
    (T : Rules) → WellFormed T → (R : List Row) → NeverFalls R → (n i : ℕ) (ls : Lengths) (a : Result Settled ℕ) (out : List ℕ) →
    settle_answer T R n i ls ≡ a → out ≡ settle_writes T R n i a → SettleSays T R n i ls a out
settle_says T wf R up n i ls (Ok s) out e w =
    let r = ruled T R wf up n i s ls e in
    let z = r.sized in
    let f = r.few in
    let is : out ≡ bytes r.proof = w ∙ r.writes in
    record {
      true_always = λ ρ h. sound T wf R ρ h r.cert;
      checked = λ stack le.
          subst (λ bs. check_answer T R bs stack ≡ accepted (claim n i s.ruling)) (sym is)
          (check_bytes T R (claim n i s.ruling) r.proof stack r.cert (omega arith) (omega arith));
      sized = ap length is ∙ length_bytes r.proof ∙ ap (λ k. 6 * k) z;
      shortest = λ cert stack a.
          let m = r.least (nodes cert) (accepted_certificate T R (claim n i s.ruling) cert stack a).2 in
          let l = length_nodes cert in
          omega arith;
    }
settle_says T wf R up n i ls (Err q) out e w =
    (asks T R wf up n i ls q e, λ reach is. in_reach T R wf up n i ls reach (e ∙ ap Err is))
