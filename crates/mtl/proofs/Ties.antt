use Rattle.std.proofs.Common.{◌≡◌, ℕ, zero, suc, ◌+◌, ◌<◌, ◌≤◌, Bool, true, false, cond, not, T as Yes, leb, ◌⊎◌, List, [], ◌∷◌, ◌++◌, length, Some, None, Option, sym, refl, ap, ◌∙◌, subst, ap₂, inl, inr, le_refl, arith, leb→le, length-append}
use native.Mathlib.Decide.{dec_lt}
use lib.Dec.{nleb→lt}
use Rattle.mtl.specs.Certificates.{node_of, Cert, Certs, node, none, more}
use Rattle.mtl.specs.Chosen.{Ahead, Chosen, ChosenAll, chosen, chosen_none, chosen_more}
use Rattle.mtl.specs.Claims.{Claim, Node}
use Rattle.mtl.specs.Follows.{Follows}
use Rattle.mtl.specs.Forms.{Step, by, steps}
use Rattle.mtl.specs.Lines.{Rules, line_at, WellFormed}
use Rattle.mtl.specs.Rows.{Row}
use Rattle.mtl.specs.Shortest.{chained, shorter, of_all, of_any, written, certificate, Best}
use Rattle.mtl.proofs.Accept.{rises}
use Rattle.mtl.specs.Lists.{AllOf, AnyOf, here, there}
use Rattle.mtl.proofs.Lists.{all_weaken, all_zip}
use Rattle.mtl.proofs.Shortest.{best_written, lower, best_kids}
use Rattle.mtl.proofs.Ways.{found, Before, Sorted, ahead, sorted_guard, ways_sorted, keyed}
use Rattle.mtl.proofs.Ways.{good as steps_follow}

at_any : {A : Type 0} (P : A → Type 0) (s : A) (xs : List A) → AnyOf (λ t. t ≡ s) xs → AllOf P xs → P s
at_any P s [] h a = elim h [ ]
at_any P s (x ∷ xs) (here e) a = subst P e a.0
at_any P s (x ∷ xs) (there h) a = at_any P s xs h a.1

some_same : {A : Type 0} (o : Option A) (a b : A) → o ≡ Some a → o ≡ Some b → a ≡ b
some_same o a b e f = cc

-- of the same size or larger, and of the same size not ahead
abbrev Yields : List Node → Step → List Node → Step → Type 0
Yields ns s us t = (length ns < length us) ⊎ ((length ns ≡ length us) × Ahead s.rule s.kids t.rule t.kids)

record Pick (f : Claim → Option (List Node)) (c : Claim) (ss : List Step) (ns : List Node) : Type 0 where
  step : Step
  nodes : List Node
  among : AnyOf (λ t. t ≡ step) ss
  got : of_all f step.kids ≡ Some nodes
  is : nodes ++ (node_of step.rule c step.kids ∷ []) ≡ ns
  first : AllOf (λ t. (us : List Node) → of_all f t.kids ≡ Some us → Yields nodes step us t) ss

none_any : (f : Claim → Option (List Node)) (c : Claim) (ss : List Step) → of_any f c ss ≡ None → AllOf (λ (t : Step). of_all f t.kids ≡ None) ss
unfolding of_any
none_any f c [] e = tt
none_any f c (s ∷ ss) e = go (of_all f s.kids) refl (of_any f c ss) refl (none_any f c ss) e
  where
    last : List Node
    last = node_of s.rule c s.kids ∷ []

    go : (o : Option (List Node)) → of_all f s.kids ≡ o → (p : Option (List Node)) → of_any f c ss ≡ p →
        (of_any f c ss ≡ None → AllOf (λ (t : Step). of_all f t.kids ≡ None) ss) → shorter (chained o (Some last)) p ≡ None →
        (of_all f s.kids ≡ None) × AllOf (λ (t : Step). of_all f t.kids ≡ None) ss
    go None eo p ep ih e = (eo, ih (ep ∙ e))
    go (Some a) eo None ep ih e = cc
    go (Some a) eo (Some b) ep ih e = absurd (at (leb (length (a ++ last)) (length b)) e)
      where
        at : (t : Bool) → cond t (Some (a ++ last)) (Some b) ≡ None → ⊥
        at true e = cc
        at false e = cc

pick : (f : Claim → Option (List Node)) (c : Claim) (ss : List Step) → Sorted ss → (ns : List Node) → of_any f c ss ≡ Some ns → Pick f c ss ns
unfolding of_any
pick f c [] so ns e = cc
pick f c (s ∷ ss) (ahead al so) ns e = go (of_all f s.kids) refl (of_any f c ss) refl (pick f c ss so) e
  where
    last : List Node
    last = node_of s.rule c s.kids ∷ []

    own : (a : List Node) → of_all f s.kids ≡ Some a → (us : List Node) → of_all f s.kids ≡ Some us → Yields a s us s
    own a eo us eu = inr (ap length (some_same _ a us eo eu), inr (refl, le_refl _))

    go : (o : Option (List Node)) → of_all f s.kids ≡ o → (p : Option (List Node)) → of_any f c ss ≡ p →
        ((ms : List Node) → of_any f c ss ≡ Some ms → Pick f c ss ms) → shorter (chained o (Some last)) p ≡ Some ns → Pick f c (s ∷ ss) ns
    go None eo p ep ih e =
        let r = ih ns (ep ∙ e) in
        record {
          step = r.step;
          nodes = r.nodes;
          among = there r.among;
          got = r.got;
          is = r.is;
          first = (λ us eu. (cc), r.first);
        }
    go (Some a) eo None ep ih e =
        record {
          step = s;
          nodes = a;
          among = here refl;
          got = eo;
          is = some_same _ _ _ refl e;
          first = (own a eo, all_weaken _ _ ss (λ t z us eu. (cc)) (none_any f c ss ep));
        }
    go (Some a) eo (Some b) ep ih e = at (leb (length (a ++ last)) (length b)) (leb→le _ _) (nleb→lt _ _) e
      where
        r : Pick f c ss b
        r = ih b ep

        size_b : length b ≡ length r.nodes + 1
        size_b = sym (ap length r.is) ∙ length-append r.nodes _

        at : (t : Bool) → (Yes t → length (a ++ last) ≤ length b) → (Yes (not t) → length b < length (a ++ last)) →
            cond t (Some (a ++ last)) (Some b) ≡ Some ns → Pick f c (s ∷ ss) ns
        at true le gt e =
            record {
              step = s;
              nodes = a;
              among = here refl;
              got = eo;
              is = some_same _ _ _ refl e;
              first = (
                own a eo,
                all_weaken _ (λ t. (us : List Node) → of_all f t.kids ≡ Some us → Yields a s us t) ss
                    (λ t z us eu. behind t us z.0 (z.1 us eu)) (all_zip (Before s) _ ss al r.first),
              );
            }
          where
            behind : (t : Step) (us : List Node) → Before s t → Yields r.nodes r.step us t → Yields a s us t
            behind t us b y =
                let l = le tt in let m = length-append a last in let k = size_b in
                let small : length a ≤ length us = omega arith in
                elim (dec_lt (length a) (length us)) [
                  | yes lt ↦ inl lt
                  | no ge ↦ inr (omega arith, elim b [ inl x ↦ inl x | inr x ↦ inr (x.0, omega (arith, x.1)) ])
                ]
        at false le gt e =
            record {
              step = r.step;
              nodes = r.nodes;
              among = there r.among;
              got = r.got;
              is = r.is ∙ some_same _ _ _ refl e;
              first = (
                λ us eu. inl (let l = gt tt in let m = length-append a last in let k = size_b in let z = ap length (some_same _ a us eo eu) in omega arith),
                r.first,
              );
            }

sorted_once : (ss : List Step) → Sorted ss → (s t : Step) → AnyOf (λ x. x ≡ s) ss → AnyOf (λ x. x ≡ t) ss →
    Ahead s.rule s.kids t.rule t.kids → Ahead t.rule t.kids s.rule s.kids → s ≡ t
sorted_once [] so s t h k a b = elim h [ ]
sorted_once (x ∷ xs) so s t (here e) (here g) a b = sym e ∙ g
sorted_once (x ∷ xs) (ahead al so) s t (here e) (there k) a b =
    let z : Before s t = subst (λ y. Before y t) e (at_any (Before x) t xs k al) in absurd (omega arith)
sorted_once (x ∷ xs) (ahead al so) s t (there h) (here g) a b =
    let z : Before t s = subst (λ y. Before y s) g (at_any (Before x) s xs h al) in absurd (omega arith)
sorted_once (x ∷ xs) (ahead al so) s t (there h) (there k) a b = sorted_once xs so s t h k a b

module _ (T : Rules) (R : List Row) where
  all_sorted : (c : Claim) → Sorted (steps T R c)
  all_sorted c = sorted_guard _ _ (sorted_guard _ _ (ways_sorted c.ruling _ (rises R c.row (line_at T c.line)) (keyed R c.row (line_at T c.line))))

  chosen_all : (f : Claim → Option (List Node)) (cs : List Claim) → AllOf (λ c. (ns : List Node) → f c ≡ Some ns → Chosen T R c ns) cs →
      (ns : List Node) → of_all f cs ≡ Some ns → ChosenAll T R cs ns
  unfolding of_all
  chosen_all f [] h ns e = subst (λ x. ChosenAll T R [] x) (some_same _ [] ns refl e) chosen_none
  chosen_all f (c ∷ cs) h ns e = go (f c) refl (of_all f cs) refl (chosen_all f cs h.1) e
    where
      go : (o : Option (List Node)) → f c ≡ o → (p : Option (List Node)) → of_all f cs ≡ p →
          ((ms : List Node) → of_all f cs ≡ Some ms → ChosenAll T R cs ms) → chained o p ≡ Some ns → ChosenAll T R (c ∷ cs) ns
      go None eo p ep ih e = cc
      go (Some a) eo None ep ih e = cc
      go (Some a) eo (Some b) ep ih e = subst (λ x. ChosenAll T R (c ∷ cs) x) (some_same _ (a ++ b) ns refl e) (chosen_more (h.0 a eo) (ih b ep))

  pub chosen_written : WellFormed T → (d : ℕ) (c : Claim) → c.line < d → (ns : List Node) → written T R d c ≡ Some ns → Chosen T R c ns
  unfolding written
  chosen_written wf zero c lt ns e = absurd (omega arith)
  chosen_written wf (suc d) c lt ns e =
      let p : Pick (written T R d) c (steps T R c) ns = pick (written T R d) c (steps T R c) (all_sorted c) ns e in
      let fo : Follows T R p.step.rule c p.step.kids =
      at_any (λ s. Follows T R s.rule c s.kids) p.step (steps T R c) p.among (steps_follow T R c) in
      subst (λ x. Chosen T R c x) p.is
      (chosen fo
      (chosen_all (written T R d) p.step.kids
      (all_weaken (λ (k : Claim). k.line < c.line) _ p.step.kids (λ k l. chosen_written wf d k (omega arith)) (lower T wf R fo)) p.nodes p.got)
      (λ rule' kids' ns' f' cs'. against p rule' kids' ns' f' cs' (of_all (written T R d) kids') refl
      (best_kids T R (written T R d) kids' (all_weaken (λ (k : Claim). k.line < c.line) _ kids' (λ k l. best_written T R wf d k (omega arith)) (lower T wf R f')))))
    where
      against : (p : Pick (written T R d) c (steps T R c) ns) (rule' : ℕ) (kids' : List Claim) (ns' : List Node) → Follows T R rule' c kids' → Certs T R kids' ns' →
          (o : Option (List Node)) → of_all (written T R d) kids' ≡ o → Best (Certs T R kids') o → Yields p.nodes p.step ns' (by rule' kids')
      against p rule' kids' ns' f' cs' None eo b = absurd (b ns' cs')
      against p rule' kids' ns' f' cs' (Some us) eo b =
          let y = at_any _ (by rule' kids') (steps T R c) (found T R f' (λ t. t ≡ by rule' kids') refl) p.first us eo in
          let l = b.1 ns' cs' in
          elim y [
            | inl x ↦ inl (omega arith)
            | inr x ↦ elim (dec_lt (length us) (length ns')) [ yes lt ↦ inl (omega (arith, x.0)) | no ge ↦ inr (omega (arith, x.0), x.1) ]
          ]

  -- the certificate that is written is the chosen one
  pub chosen_certificate : WellFormed T → (c : Claim) (ns : List Node) → certificate T R c ≡ Some ns → Chosen T R c ns
  unfolding certificate
  chosen_certificate wf c ns e = chosen_written wf (suc c.line) c (omega arith) ns e

  mutual
    pub chosen_cert : {c : Claim} {ns : List Node} → Chosen T R c ns → Cert T R c ns
    chosen_cert (chosen f cs m) = node f (chosen_certs cs)

    pub chosen_certs : {cs : List Claim} {ns : List Node} → ChosenAll T R cs ns → Certs T R cs ns
    chosen_certs chosen_none = none
    chosen_certs (chosen_more c cs) = more (chosen_cert c) (chosen_certs cs)

  -- there is one chosen certificate at most
  same_step : {c : Claim} {rule rule' : ℕ} {kids kids' : List Claim} → Follows T R rule c kids → Follows T R rule' c kids' →
      Ahead rule kids rule' kids' → Ahead rule' kids' rule kids → by rule kids ≡ by rule' kids'
  same_step {c = c} f f' a b =
      sorted_once (steps T R c) (all_sorted c) _ _ (found T R f (λ t. t ≡ _) refl) (found T R f' (λ t. t ≡ _) refl) a b

  mutual
    pub chosen_once : {c : Claim} {ns : List Node} → Chosen T R c ns → (ms : List Node) → Chosen T R c ms → ns ≡ ms
    chosen_once (chosen {rule = rule} {c = c} {kids = kids} {ns = ns} f cs m) ms (chosen {rule = rule'} {kids = kids'} {ns = ns'} f' cs' m') =
        let y = m' rule kids ns f (chosen_certs cs) in
        elim (m rule' kids' ns' f' (chosen_certs cs')) [
          | inl a ↦ absurd (omega arith)
          | inr a ↦ elim y [
            | inl b ↦ absurd (omega (arith, a.0))
            | inr b ↦
                let e = same_step f f' a.1 b.1 in
                ap₂ (λ x (s : Step). x ++ (node_of s.rule c s.kids ∷ []))
                (chosen_all_once cs ns' (subst (λ (s : Step). ChosenAll T R s.kids ns') (sym e) cs')) e
          ]
        ]

    pub chosen_all_once : {cs : List Claim} {ns : List Node} → ChosenAll T R cs ns → (ms : List Node) → ChosenAll T R cs ms → ns ≡ ms
    chosen_all_once chosen_none ms chosen_none = refl
    chosen_all_once (chosen_more c cs) ms (chosen_more c' cs') = ap₂ (λ a b. a ++ b) (chosen_once c _ c') (chosen_all_once cs _ cs')
