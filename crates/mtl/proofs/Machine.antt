use Rattle.std.proofs.Common.{◌≡◌, ◌↔◌, List, [], ◌∷◌, ◌++◌, sym, refl, ap, ◌∙◌, subst, append_assoc}
use Rattle.mtl.specs.Certificates.{node_of, Cert, Certs, node, none, more}
use Rattle.mtl.specs.Claims.{Claim, Node}
use Rattle.mtl.specs.Lines.{Rules}
use Rattle.mtl.specs.Rows.{Row}
use Rattle.mtl.specs.Waiting.{Leaves, stop, take}
use Rattle.std.proofs.lemmas.List.{append-nil}

module _ (T : Rules) (R : List Row) where
  pub runs_append : {s t u : List Claim} {ns ms : List Node} → Leaves T R s ns t → Leaves T R t ms u → Leaves T R s (ns ++ ms) u
  runs_append stop q = q
  runs_append (take s f p) q = take s f (runs_append p q)

  mutual
    cert_runs : {c : Claim} {ns : List Node} → Cert T R c ns → (s : List Claim) → Leaves T R s ns (s ++ (c ∷ []))
    cert_runs (node f cs) s = runs_append (certs_run cs s) (take s f stop)

    certs_run : {cs : List Claim} {ns : List Node} → Certs T R cs ns → (s : List Claim) → Leaves T R s ns (s ++ cs)
    certs_run none s = subst (λ t. Leaves T R s [] t) (sym (append-nil s)) stop
    certs_run (more {c = c} {cs = cs} {ms = ms} d ds) s =
        runs_append (cert_runs d s) (subst (λ t. Leaves T R (s ++ (c ∷ [])) ms t) (append_assoc s (c ∷ []) cs) (certs_run ds (s ++ (c ∷ []))))

  pub record Split (s t : List Claim) (ns : List Node) : Type 0 where
    pub first : List Node
    pub second : List Node
    pub joined : first ++ second ≡ ns
    pub of_first : Certs T R s first
    pub of_second : Certs T R t second

  split : (s : List Claim) {t : List Claim} {ns : List Node} → Certs T R (s ++ t) ns → Split s t ns
  split [] h = record { first = []; second = _; joined = refl; of_first = none; of_second = h }
  split (c ∷ s) (more {ns = a} d ds) =
      let r = split s ds in
      record {
        first = a ++ r.first;
        second = r.second;
        joined = append_assoc a r.first r.second ∙ ap (λ x. a ++ x) r.joined;
        of_first = more d r.of_first;
        of_second = r.of_second;
      }

  join : {s t : List Claim} {ns ms : List Node} → Certs T R s ns → Certs T R t ms → Certs T R (s ++ t) (ns ++ ms)
  join none q = q
  join {t = t} {ms = ms} (more {c = c} {cs = cs} {ns = a} {ms = b} d ds) q =
      subst (λ x. Certs T R (c ∷ (cs ++ t)) x) (sym (append_assoc a b ms)) (more d (join ds q))

  one : {c : Claim} {ns : List Node} → Cert T R c ns → Certs T R (c ∷ []) ns
  one {c = c} {ns = ns} d = subst (λ x. Certs T R (c ∷ []) x) (append-nil ns) (more d none)

  only : {c : Claim} {ns : List Node} → Certs T R (c ∷ []) ns → Cert T R c ns
  only {c = c} (more {ns = a} d none) = subst (λ x. Cert T R c x) (sym (append-nil a)) d

  -- what waits, with the nodes read so far
  runs_certs : {s t : List Claim} {ns ms : List Node} → Certs T R s ms → Leaves T R s ns t → Certs T R t (ms ++ ns)
  runs_certs {t = t} {ms = ms} h stop = subst (λ x. Certs T R t x) (sym (append-nil ms)) h
  runs_certs {t = t} {ms = ms} h (take s {kids = kids} {c = c} {rule = rule} {ns = ns} f p) =
      let r = split s h in
      let z = node_of rule c kids ∷ [] in
      subst (λ x. Certs T R t x)
      (ap (λ x. x ++ ns) (sym (append_assoc r.first r.second z)) ∙ append_assoc (r.first ++ r.second) z ns ∙ ap (λ x. x ++ (z ++ ns)) r.joined)
      (runs_certs (join r.of_first (one (node f r.of_second))) p)

  pub accepts : (c : Claim) (ns : List Node) → Leaves T R [] ns (c ∷ []) ↔ Cert T R c ns
  accepts c ns = (λ h. only (runs_certs none h), λ d. cert_runs d [])
