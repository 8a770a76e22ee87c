-- The laws, each from the file that proves it.
use Rattle.std.proofs.Common.{◌≡◌, List, Some, None, Option, refl, ap, ◌∙◌, subst}
use Rattle.mtl.specs.Claims.{Node}
use Rattle.mtl.specs.Follows.{Follows}
use Rattle.mtl.specs.Certificates.{Cert}
use Rattle.mtl.specs.Forms.{steps}
use Rattle.mtl.specs.Shortest.{certificate, Best}
use Rattle.mtl.specs.Chosen.{Chosen}
use Rattle.mtl.specs.Laws as laws
use Rattle.mtl.proofs.Lists.{any_place, all_place}
use Rattle.mtl.proofs.Sound.{sound}
use Rattle.mtl.proofs.Complete.{complete}
use Rattle.mtl.proofs.Consistent.{one_ruling}
use Rattle.mtl.proofs.Ways.{good, found}
use Rattle.mtl.proofs.Shortest.{best_certificate}
use Rattle.mtl.proofs.Ties.{chosen_certificate, chosen_once, chosen_cert}
use Rattle.mtl.proofs.Filled.{cell_at}
use Rattle.mtl.proofs.Plans.{plan_at}
use Rattle.mtl.proofs.Encoding.{nodes_bytes, bytes_nodes}
use Rattle.mtl.proofs.Accept.{check_is}
use Rattle.mtl.proofs.Exact.{check_says}
use Rattle.mtl.proofs.Settles.{settle_says}

pub sound_law : laws.Sound
sound_law T wf R c ns h ρ k = sound T wf R ρ k h

pub one_ruling_law : laws.OneRuling
one_ruling_law = one_ruling

pub complete_law : laws.Complete
complete_law T wf R up n i p q h = complete T R up wf n p i q h

pub listed_law : laws.Listed
listed_law T R c s = (
  λ f. any_place s (steps T R c) (found T R f (λ x. x ≡ s) refl),
  λ (k, lt, e). subst (λ x. Follows T R x.rule c x.kids) e (all_place (λ x. Follows T R x.rule c x.kids) s (steps T R c) (good T R c) k lt),
)

pub least_law : laws.Least
least_law T wf R c = (best_certificate T R wf c, λ ns. (chosen_certificate T R wf c ns, back ns (certificate T R c) refl (best_certificate T R wf c)))
  where
    back : (ns : List Node) (o : Option (List Node)) → certificate T R c ≡ o → Best (Cert T R c) o → Chosen T R c ns → certificate T R c ≡ Some ns
    back ns None e b h = absurd (b ns (chosen_cert T R h))
    back ns (Some ms) e b h = e ∙ ap Some (chosen_once T R (chosen_certificate T R wf c ms e) ns h)

pub filled_law : laws.Filled
filled_law T wf R g c h = (cell_at T wf R g c h, plan_at T wf R g c h)

pub bytes_law : laws.Bytes
bytes_law = (
  nodes_bytes,
  bytes_nodes,
  λ T R ns c d a b.
      let x = (check_is T R ns c).1 a in
      let y = (check_is T R ns d).1 b in
      cc,
)

pub exact_law : laws.Exact
exact_law T wf R bs stack = check_says T R wf bs stack _ refl

pub settling_law : laws.Settling
settling_law T wf R up n i ls = settle_says T wf R up n i ls _ _ refl refl
