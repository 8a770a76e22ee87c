-- Check accepts exactly the certificates, and a refusal tells the first node and question.
use Rattle.std.proofs.Common.{◌≡◌, ℕ, suc, ◌*◌, ◌/◌, ◌%◌, ◌<◌, ◌≤◌, ltb, List, [], ◌∷◌, ◌++◌, length, Some, None, Option, sym, refl, ap, ◌∙◌, subst, inl, inr, append_assoc, arith, le→leb, eqb→eq, lt→ltb, leb→le, length-append}
use Rattle.mtl.specs.Questions.{first_no}
use Rattle.mtl.specs.Rows.{Row}
use Rattle.mtl.specs.Lines.{Rules, WellFormed}
use Rattle.mtl.specs.Claims.{Claim, Node}
use Rattle.mtl.specs.Certificates.{node_of, Cert, node}
use Rattle.mtl.specs.Bytes.{nodes, bytes}
use Rattle.mtl.specs.Checking.{Went, stops, goes, went, questions_at, node_step, Verdict, accepted, refused, checks, check_questions, unless, check_answer}
use Rattle.mtl.specs.Waiting.{Leaves, stop, take as takes, Stops, at_node, at_end}
use Rattle.mtl.specs.Laws.{IsCertificate, RefusedBy, CheckSays}
use Rattle.mtl.proofs.Tests.{both, snd_of}
use Rattle.std.proofs.Math.Facts.{yes_eqb}
use Rattle.std.proofs.lemmas.List.{append-nil}
use Rattle.mtl.proofs.Asked.{all_yes, yes_all}
use Rattle.mtl.proofs.Machine.{runs_append}
use Rattle.mtl.proofs.Accept.{check_is, took, Took}
use Rattle.mtl.proofs.Encoding.{nodes_bytes, length_bytes, length_whole}
use Rattle.mtl.proofs.Sound.{sound}

some_node : {T : Rules} {R : List Row} {c : Claim} {ns : List Node} → Cert T R c ns → 1 ≤ length ns
some_node (node {rule = rule} {c = c} {kids = kids} {ns = ns} f cs) = let e = length-append ns (node_of rule c kids ∷ []) in omega arith

refused_at : (q m q' m' : ℕ) → refused q m ≡ refused q' m' → (q ≡ q') × (m ≡ m')
refused_at q m q' m' e = ((cc), (cc))

went_stops : (o : Option ℕ) (s : List Claim) (q : ℕ) → went o s ≡ stops q → o ≡ Some q
went_stops None s q e = cc
went_stops (Some p) s q e = cc

module _ (T : Rules) (R : List Row) where
  -- given stack enough, a certificate is accepted
  pub accepts_certificate : (c : Claim) (bs : List ℕ) (k : ℕ) → IsCertificate T R bs c → length (nodes bs) ≤ k → check_answer T R bs k ≡ accepted c
  unfolding check_answer
  accepts_certificate c bs k (whole, few, cert) room =
      let o = some_node cert in
      let w : length bs % 6 ≡ 0 = omega arith in
      let s : 0 < length bs = omega arith in
      let m : length bs ≤ 24576 = omega arith in
      let r : length bs / 6 ≤ k = omega arith in
      ap (λ x. unless x (checks T R [] (nodes bs) 0))
      (all_yes (check_questions (length bs) k) (both _ _ (lt→ltb _ _ s) (yes_eqb w), (le→leb _ _ m, (le→leb _ _ r, tt)))) ∙
      (check_is T R (nodes bs) c).1 cert

  pub check_bytes : (c : Claim) (ns : List Node) (k : ℕ) → Cert T R c ns → length ns ≤ 4096 → length ns ≤ k → check_answer T R (bytes ns) k ≡ accepted c
  check_bytes c ns k h small room =
      let e = nodes_bytes ns in
      accepts_certificate c (bytes ns) k
      (length_bytes ns ∙ ap (λ x. 6 * length x) (sym e), subst (λ x. length x ≤ 4096) (sym e) small, subst (Cert T R c) (sym e) h)
      (subst (λ x. length x ≤ k) (sym e) room)

  -- what is accepted is a certificate
  pub accepted_certificate : (c : Claim) (bs : List ℕ) (k : ℕ) → check_answer T R bs k ≡ accepted c → IsCertificate T R bs c
  unfolding check_answer
  accepted_certificate c bs k e = go (first_no (check_questions (length bs) k)) refl e
    where
      go : (o : Option ℕ) → first_no (check_questions (length bs) k) ≡ o → unless o (checks T R [] (nodes bs) 0) ≡ accepted c → IsCertificate T R bs c
      go (Some q) w e = cc
      go None w e =
          let ys = yes_all (check_questions (length bs) k) w in
          let whole = length_whole bs (eqb→eq _ _ (snd_of (ltb 0 (length bs)) _ ys.0)) in
          let short : length bs ≤ 24576 = leb→le _ _ ys.1.0 in
          (whole, omega arith, (check_is T R (nodes bs) c).0 e)

  -- a node that follows its rule leaves what it says
  pub took_leaves : {s t : List Claim} {d : Node} → Took T R s d t → Leaves T R s (d ∷ []) t
  took_leaves {s = s} {t = t} {d = d} k =
      subst (λ x. Leaves T R x (d ∷ []) t) k.stack_was
      (subst (λ x. Leaves T R (k.rest ++ k.kids) (x ∷ []) t) k.node_is
      (takes k.rest k.follows (subst (λ x. Leaves T R (k.rest ++ (k.claim ∷ [])) [] x) k.stack_is stop)))

  refused_stops :
      (before : List Node) (s : List Claim) (ns : List Node) (k q m : ℕ) → Leaves T R [] before s → k ≡ length before →
      checks T R s ns k ≡ refused q m → Stops T R (before ++ ns) q m
  unfolding checks node_step
  refused_stops before [] [] k q m l n e =
      let z = refused_at 20 k q m e in
      at_end [] (sym z.1 ∙ n ∙ ap length (sym (append-nil before))) (subst (λ x. Leaves T R [] x []) (sym (append-nil before)) l) (sym z.0) (λ h. omega arith)
  refused_stops before (c ∷ []) [] k q m l n e = cc
  refused_stops before (c ∷ d ∷ s) [] k q m l n e =
      let z = refused_at 20 k q m e in
      at_end (c ∷ d ∷ s) (sym z.1 ∙ n ∙ ap length (sym (append-nil before))) (subst (λ x. Leaves T R [] x (c ∷ d ∷ s)) (sym (append-nil before)) l) (sym z.0) (λ h. omega arith)
  refused_stops before s (d ∷ ns) k q m l n e = go (node_step T R s d) refl (λ t. refused_stops (before ++ (d ∷ [])) t ns (suc k) q m) e
    where
      go : (w : Went) → node_step T R s d ≡ w →
          ((t : List Claim) → Leaves T R [] (before ++ (d ∷ [])) t → suc k ≡ length (before ++ (d ∷ [])) → checks T R t ns (suc k) ≡ refused q m → Stops T R ((before ++ (d ∷ [])) ++ ns) q m) →
          (elim w as (λ _. Verdict) [ stops p ↦ refused p k | goes t ↦ checks T R t ns (suc k) ]) ≡ refused q m → Stops T R (before ++ (d ∷ ns)) q m
      go (stops p) ew ih e =
          let z = refused_at p k q m e in
          at_node before d ns s refl (sym z.1 ∙ n) l (went_stops (first_no (questions_at T R s d)) _ p ew ∙ ap Some z.0)
      go (goes t) ew ih e =
          subst (λ x. Stops T R x q m) (append_assoc before (d ∷ []) ns)
          (ih t (runs_append T R l (took_leaves (took T R s d t ew))) (let a = length-append before (d ∷ []) in omega arith) e)

  refused_by : (bs : List ℕ) (k q m : ℕ) → check_answer T R bs k ≡ refused q m → RefusedBy T R bs k q m
  unfolding check_answer
  refused_by bs k q m e = go (first_no (check_questions (length bs) k)) refl e
    where
      go : (o : Option ℕ) → first_no (check_questions (length bs) k) ≡ o → unless o (checks T R [] (nodes bs) 0) ≡ refused q m → RefusedBy T R bs k q m
      go None w e = inr (w, refused_stops [] [] (nodes bs) 0 q m stop refl e)
      go (Some p) w e = let z = refused_at p 0 q m e in inl (w ∙ ap Some z.0, sym z.1)

  pub check_says : WellFormed T → (bs : List ℕ) (k : ℕ) (v : Verdict) → check_answer T R bs k ≡ v → CheckSays T R bs k v
  check_says wf bs k (accepted c) e =
      let is = accepted_certificate c bs k e in
      (is, λ ρ h. sound T wf R ρ h is.2)
  check_says wf bs k (refused q m) e =
      (λ room c is. let a = accepts_certificate c bs k is room in cc, refused_by bs k q m e)
