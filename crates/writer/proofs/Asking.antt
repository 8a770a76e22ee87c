-- What Settle answers, by its questions, and what it leaves in its buffers.
use Rattle.std.proofs.Common.{◌≡◌, ℕ, zero, suc, ◌+◌, ◌*◌, ◌<◌, ◌≤◌, min, Bool, true, false, ◌&&◌, ltb, leb, List, [], ◌∷◌, length, Some, None, Ok, Err, Option, Result, sym, refl, ap, ◌∙◌, subst, ap₂, arith}
use native.Mathlib.Decide.{dec_lt}
use Rattle.std.proofs.lemmas.Bool.{lt-ltb, le-ltb, le-leb, lt-leb}
use Rattle.mtl.specs.Questions.{first_no, answer}
use Rattle.mtl.specs.Settling.{Settlement, one_of, settlement, Lengths, any, proof_of, ruling_of, settle_answer, settle_writes}
use Rattle.mtl.specs.declared.ruling.Settled.{Settled}
use Rattle.mtl.proofs.Encoding.{length_bytes}
use Rattle.mtl.specs.Lines.{Rules, WellFormed}
use Rattle.mtl.specs.Claims.{Held, Broken, claim}
use Rattle.mtl.specs.Shortest.{certificate}
use Rattle.mtl.specs.Cells.{cell}
use Rattle.mtl.specs.Bytes.{bytes}
use Rattle.mtl.specs.declared.row.Row.{Row}
use Rattle.mtl.specs.declared.ruling.Node.{Node}
use Rattle.mtl.proofs.Filled.{Filled}
use Rattle.mtl.specs.declared.ruling.Ruling.TheVariants.{Held as held, Broken as broken}
use Rattle.writer.specs.Written.{bytes_in, cert_bytes, Short}
use Rattle.writer.specs.Told.{least_of}
use Rattle.writer.specs.Tables.{cell_of}
use Rattle.writer.proofs.Joined.{nonempty}
use Rattle.writer.proofs.Outside.{second_false, first_false}

-- Settle's answer, over the answers to its questions
abbrev asked : Bool → Bool → Bool → Bool → Bool → Bool → Settled → Result Settled ℕ
asked a b c d e f s = answer (first_no ((21, a) ∷ (22, b) ∷ (23, c) ∷ (24, d) ∷ (25, e) ∷ (26, f) ∷ [])) s

-- the certificate found: the ruling of the two cells, and its size
pub record Found (T : Rules) (R : List Row) (n i : ℕ) (s : Settled) (d : Settlement) : Type 0 where
  pub is : settlement T R n i ≡ Some d
  pub ruled : d.ruling ≡ s.ruling
  pub size : min (length d.proof) 4097 ≡ s.size
  pub made : certificate T R (claim n i s.ruling) ≡ Some d.proof

-- the two cells tell whether there is a certificate, and which
module _ (T : Rules) (R : List Row) (n i : ℕ) where
  pub open_is : least_of (cell_of T R (Held n i)) (cell_of T R (Broken n i)) ≡ None → WellFormed T → settlement T R n i ≡ None
  unfolding settlement
  open_is e wf = go (certificate T R (Held n i)) (certificate T R (Broken n i)) (nonempty T wf R (Held n i)) (nonempty T wf R (Broken n i)) e
    where
      absent : (a b : ℕ) → 1 ≤ a + b → least_of a b ≡ None → ⊥
      absent zero zero h e = omega arith
      absent zero (suc b) h e = cc
      absent (suc a) b h e = cc

      go : (o p : Option (List Node)) → Filled o → Filled p → least_of (cell o) (cell p) ≡ None → one_of o p ≡ None
      go (Some a) p f g e = absurd (absent (min (length a) 4097) (cell p) (omega arith) e)
      go None (Some b) f g e = absurd (absent 0 (min (length b) 4097) (omega arith) e)
      go None None f g e = refl

  pub found_is : (s : Settled) → least_of (cell_of T R (Held n i)) (cell_of T R (Broken n i)) ≡ Some s → WellFormed T → (d : Settlement) × Found T R n i s d
  unfolding settlement
  found_is s h wf = go (certificate T R (Held n i)) (certificate T R (Broken n i)) refl refl (nonempty T wf R (Held n i)) h
    where
      at : (a : ℕ) (ns : List Node) → a ≡ min (length ns) 4097 → 1 ≤ a → certificate T R (Held n i) ≡ Some ns → least_of a (cell_of T R (Broken n i)) ≡ Some s →
          (d : Settlement) × Found T R n i s d
      at zero ns e l q k = absurd (omega arith)
      at (suc a) ns e l q k =
          let z : record { ruling = held; size = suc a } ≡ s = cc in
          subst (λ s. (d : Settlement) × Found T R n i s d) z
          (record { ruling = held; proof = ns }, record { is = ap (λ o. one_of o (certificate T R (Broken n i))) q; ruled = refl; size = sym e; made = q })

      by : (b : ℕ) (ns : List Node) → b ≡ min (length ns) 4097 → certificate T R (Held n i) ≡ None → certificate T R (Broken n i) ≡ Some ns → least_of 0 b ≡ Some s →
          (d : Settlement) × Found T R n i s d
      by zero ns e p q k = absurd (cc)
      by (suc b) ns e p q k =
          let z : record { ruling = broken; size = suc b } ≡ s = cc in
          subst (λ s. (d : Settlement) × Found T R n i s d) z
          (record { ruling = broken; proof = ns }, record { is = ap₂ one_of p q; ruled = refl; size = sym e; made = q })

      go : (o p : Option (List Node)) → certificate T R (Held n i) ≡ o → certificate T R (Broken n i) ≡ p → Filled o →
          least_of (cell_of T R (Held n i)) (cell_of T R (Broken n i)) ≡ Some s → (d : Settlement) × Found T R n i s d
      go (Some ns) p q r f h = let e : cell_of T R (Held n i) ≡ min (length ns) 4097 = ap cell q in at (cell_of T R (Held n i)) ns e (omega arith) q h
      go None None q r f h = let z : least_of 0 0 ≡ Some s = sym (ap₂ (λ a b. least_of (cell a) (cell b)) q r) ∙ h in absurd (cc)
      go None (Some ns) q r f h = by (cell_of T R (Broken n i)) ns (ap cell r) q r (sym (ap (λ a. least_of (cell a) (cell_of T R (Broken n i))) q) ∙ h)

  module _ (ls : Lengths) where
    abbrev asks : Option Settlement → Bool → Bool → Bool → Result Settled ℕ
    asks o a b c =
        asked a b c (any o) (leb (length (proof_of o)) 4096) (leb (6 * length (proof_of o)) ls.out) (record { ruling = ruling_of o; size = length (proof_of o) })

    by_asked : (o : Option Settlement) → settlement T R n i ≡ o →
        settle_answer T R n i ls ≡ asks o (ltb n (length T)) (ltb i (length R)) (leb 8192 ls.sizes && leb 8192 ls.plan)
    unfolding settle_answer
    by_asked o e = ap (λ o. asks o (ltb n (length T)) (ltb i (length R)) (leb 8192 ls.sizes && leb 8192 ls.plan)) e

    pub no_line : length T ≤ n → Err 21 ≡ settle_answer T R n i ls
    no_line h =
        sym (by_asked (settlement T R n i) refl ∙
        ap (λ b. asks (settlement T R n i) b (ltb i (length R)) (leb 8192 ls.sizes && leb 8192 ls.plan)) (le-ltb n (length T) h))

    module _ (line : n < length T) where
      pub no_row : length R ≤ i → Err 22 ≡ settle_answer T R n i ls
      no_row h =
          let a = lt-ltb n (length T) line in
          let b = le-ltb i (length R) h in
          sym (by_asked (settlement T R n i) refl ∙ (λ k. asks (settlement T R n i) (a k) (b k) (leb 8192 ls.sizes && leb 8192 ls.plan)))

      module _ (row : i < length R) where
        pub no_room : min ls.sizes ls.plan < 8192 → Err 23 ≡ settle_answer T R n i ls
        no_room h =
            let a = lt-ltb n (length T) line in
            let b = lt-ltb i (length R) row in
            let c = small h in
            sym (by_asked (settlement T R n i) refl ∙ (λ k. asks (settlement T R n i) (a k) (b k) (c k)))
          where
            small : min ls.sizes ls.plan < 8192 → (leb 8192 ls.sizes && leb 8192 ls.plan) ≡ false
            small h = elim (dec_lt ls.sizes 8192) [
              | yes k ↦ first_false (leb 8192 ls.sizes) (leb 8192 ls.plan) (lt-leb 8192 ls.sizes k)
              | no k ↦ second_false (leb 8192 ls.sizes) (leb 8192 ls.plan) (lt-leb 8192 ls.plan (omega arith))
            ]

        module _ (wide : 8192 ≤ ls.sizes) (deep : 8192 ≤ ls.plan) where
          asked_on : (o : Option Settlement) → settlement T R n i ≡ o → settle_answer T R n i ls ≡ asks o true true true
          asked_on o e =
              let a = lt-ltb n (length T) line in
              let b = lt-ltb i (length R) row in
              let c = ap₂ ◌&&◌ (le-leb 8192 ls.sizes wide) (le-leb 8192 ls.plan deep) in
              by_asked o e ∙ (λ k. asks o (a k) (b k) (c k))

          pub told_open : settlement T R n i ≡ None → Err 24 ≡ settle_answer T R n i ls
          told_open e = sym (asked_on None e)

          module _ (s : Settled) (d : Settlement) (f : Found T R n i s d) where
            pub told_long : 4096 < s.size → Err 25 ≡ settle_answer T R n i ls
            told_long h =
                let e = lt-leb (length d.proof) 4096 (omega (arith, f.size)) in
                sym (asked_on (Some d) f.is ∙ ap (λ b. asked true true true true b (leb (6 * length d.proof) ls.out) (record { ruling = d.ruling; size = length d.proof })) e)

            module _ (short : s.size ≤ 4096) where
              exact : length d.proof ≡ s.size
              exact = omega (arith, f.size)

              within : leb (length d.proof) 4096 ≡ true
              within = le-leb (length d.proof) 4096 (omega (arith, exact))

              pub told_room : ls.out < 6 * s.size → Err 26 ≡ settle_answer T R n i ls
              told_room h =
                  let e = within in
                  let g = lt-leb (6 * length d.proof) ls.out (omega (arith, exact)) in
                  sym (asked_on (Some d) f.is ∙ (λ k. asked true true true true (e k) (g k) (record { ruling = d.ruling; size = length d.proof })))

              pub told_settled : 6 * s.size ≤ ls.out → Ok s ≡ settle_answer T R n i ls
              told_settled h =
                  let e = within in
                  let g = le-leb (6 * length d.proof) ls.out (omega (arith, exact)) in
                  sym (asked_on (Some d) f.is ∙ (λ k. asked true true true true (e k) (g k) (record { ruling = f.ruled k; size = exact k })))

              -- the certificate as it is written
              pub bytes_are : settle_writes T R n i (Ok s) ≡ cert_bytes T R (claim n i s.ruling)
              unfolding settle_writes cert_bytes
              bytes_are = ap (λ o. bytes (proof_of o)) f.is ∙ ap bytes_in (sym f.made)

              pub bytes_long : length (cert_bytes T R (claim n i s.ruling)) ≡ 6 * s.size
              unfolding cert_bytes
              bytes_long = ap (λ o. length (bytes_in o)) f.made ∙ length_bytes d.proof ∙ ap (λ k. 6 * k) exact

              pub short_is : 1 ≤ s.size → Short T R (claim n i s.ruling)
              short_is l = let e = ap cell f.made in (omega (arith, e, f.size), omega (arith, e, f.size))
