-- What Check answers before any node, and what an answer says in the subject's words.
use Rattle.std.proofs.Common.{◌≡◌, ℕ, ◌/◌, ◌%◌, Bool, true, false, ◌&&◌, eqb, ltb, leb, List, [], ◌∷◌, length, Ok, Err, Result, sym, refl, ap, ◌∙◌, arith}
use Rattle.mtl.specs.declared.row.Row.{Row}
use Rattle.mtl.specs.declared.ruling.Claim.{Claim}
use Rattle.mtl.specs.Bytes.{nodes}
use Rattle.mtl.specs.Checking.{Verdict, accepted, unless, checks, check_answer}
use Rattle.mtl.specs.Laws.{CheckSays}
use Rattle.mtl.specs.Lines.{Rules, WellFormed}
use Rattle.mtl.specs.Questions.{first_no}
use Rattle.mtl.proofs.Exact.{accepted_certificate, accepts_certificate, check_says}
use Rattle.checker.specs.declared.fault.CheckFault.{CheckFault}
use Rattle.checker.specs.Sizes.{by_three, size_answer}
use Rattle.checker.specs.Told.{told, AcceptsExactly}

-- the verdict after the questions before any node: a fault's own, or that of the nodes
abbrev then : Result (Unit {0}) CheckFault → Verdict → Verdict
then (Ok u) v = v
then (Err f) v = told (Err f)

three : (a b c : Bool) (v : Verdict) → then (by_three a b c) v ≡ unless (first_no ((11, a) ∷ (12, b) ∷ (13, c) ∷ [])) v
three false b c v = refl
three true false c v = refl
three true true false v = refl
three true true true v = refl

module _ (T : Rules) (R : List Row) (bs : List ℕ) (k : ℕ) where
  pub by_size : (r : Result (Unit {0}) CheckFault) → r ≡ size_answer (length bs) k → then r (checks T R [] (nodes bs) 0) ≡ check_answer T R bs k
  unfolding check_answer
  by_size r e =
      ap (λ x. then x (checks T R [] (nodes bs) 0)) e
      ∙ three (ltb 0 (length bs) && eqb (length bs % 6) 0) (leb (length bs) 24576) (leb (length bs / 6) k) (checks T R [] (nodes bs) 0)

  exactly : (r : Result Claim CheckFault) → told r ≡ check_answer T R bs k → AcceptsExactly T R bs k r
  exactly r e room c =
      (λ q. accepted_certificate T R c bs k (sym e ∙ ap told q), λ is. claimed r (e ∙ accepts_certificate T R c bs k is room))
    where
      claimed : (r : Result Claim CheckFault) → told r ≡ accepted c → r ≡ Ok c
      claimed (Ok d) q = cc
      claimed (Err f) q = let z : ◌≡◌ {A = ℕ} 0 1 = cc in absurd (omega arith)

  pub promised : WellFormed T → (r : Result Claim CheckFault) → told r ≡ check_answer T R bs k → AcceptsExactly T R bs k r × CheckSays T R bs k (told r)
  promised formed r e = (exactly r e, check_says T R formed bs k (told r) (sym e))
