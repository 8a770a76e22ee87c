-- When a rule as the code has it, by its number, is a form of the rules' table: a lemma for each shape of its children.
use Rattle.std.proofs.Common.{◌≡◌, ℕ, Bool, true, false, cond, not, ◌&&◌, eqb, ltb, leb, List, [], ◌∷◌, length, Some, None, Option, sym, refl, ap, ◌∙◌, ap₂, arith}
use Rattle.std.proofs.Math.Bool.{and-true, and_comm}
use Rattle.std.proofs.lemmas.Bool.{both_ways, and_parts}
use Rattle.std.proofs.lemmas.Bool.Decides.{nat_tests}
use Rattle.mtl.specs.declared.row.Row.{Row}
use Rattle.mtl.specs.declared.ruling.Claim.{Claim}
use Rattle.mtl.specs.declared.ruling.Ruling.{Ruling}
use Rattle.mtl.specs.Claims.{claim, each, first_row}
use Rattle.mtl.specs.Checking.{alike, count_fits, lines_fit, all_alike, same_rows}
use Rattle.mtl.specs.Forms.{first_then, any_of, Form, form, fixed}
use Rattle.checker.specs.declared.parts.Parts.{Parts}
use Rattle.checker.specs.Parts.{interval_of}
use Rattle.proof_rules.specs.Rule.{of_kind, counted, timed, ruled}
use Rattle.checker.specs.Children.{all_of, first_then_of, all_at, rows_are, lines_shown}
use Rattle.checker.specs.Placed.{placed}
use Rattle.checker.proofs.Alike.{all_alike_lem, none_alike, one_alike, two_alike, no_rows, one_row, two_rows, each_row, led_rows}

-- rule n of the code is the form f
pub record Coded (R : List Row) (i : ℕ) (p : Parts) (n : ℕ) (f : Form) : Type 0 where
  pub own : of_kind p.kind n ≡ true
  pub counts : (c : ℕ) → count_fits f.shape c ≡ counted n c
  pub rules : f.ruling ≡ ruled n
  pub lines : (cs : List Claim) → count_fits f.shape (length cs) ≡ true → lines_fit f.shape cs ≡ lines_shown n p.left p.right cs
  pub rows :
      (cs : List Claim) → lines_fit f.shape cs ≡ true →
      (same_rows (f.kids (first_row cs)) cs && f.meets (first_row cs)) ≡ (timed n (interval_of R i p) && placed R n p i cs)

swap : (x y b t : Bool) → x ≡ y → b ≡ t → (x && b) ≡ (t && y)
swap x y b t e h = ap₂ ◌&&◌ e h ∙ and_comm y t

pub alone : (b t : Bool) → b ≡ t → b ≡ (t && true)
alone b t e = e ∙ sym (and-true t)

-- what is asked of the interval to the row beside, where b says whether there is one
pub gap_lem : (f : Option ℕ → Bool) → f None ≡ false → (d : ℕ) (b : Bool) → (b && f (Some d)) ≡ f (cond b (Some d) None)
gap_lem f none d true = refl
gap_lem f none d false = sym none

eqb_sym : (a b : ℕ) → eqb a b ≡ eqb b a
eqb_sym a b = grind (arith, nat_tests)

pub first_row_lem : (i : ℕ) → eqb i 0 ≡ not (ltb 0 i)
first_row_lem i = grind (arith, nat_tests)

-- forms by their shape

module _ {R : List Row} {i : ℕ} {p : Parts} {n : ℕ} {r : Ruling} (own : of_kind p.kind n ≡ true) (rules : r ≡ ruled n) where
  pub no_child :
      {b : Bool} → ((c : ℕ) → eqb c 0 ≡ counted n c) → ((cs : List Claim) → true ≡ lines_shown n p.left p.right cs) →
      ((cs : List Claim) → b ≡ (timed n (interval_of R i p) && placed R n p i cs)) → Coded R i p n (fixed n r [] b)
  no_child {b = b} count shown place =
      record {
        own = own;
        counts = λ c. eqb_sym 0 c ∙ count c;
        rules = rules;
        lines = λ cs h. none_alike cs h ∙ shown cs;
        rows = λ cs h. ap (λ t. t && b) (no_rows cs h) ∙ place cs;
      }

  pub one_child :
      {l j : ℕ} {q : Ruling} {b : Bool} → ((c : ℕ) → eqb c 1 ≡ counted n c) → ((cs : List Claim) → all_of l q cs ≡ lines_shown n p.left p.right cs) →
      b ≡ timed n (interval_of R i p) → ((cs : List Claim) → all_at j cs ≡ placed R n p i cs) → Coded R i p n (fixed n r (claim l j q ∷ []) b)
  one_child {l = l} {j = j} {q = q} {b = b} count shown time place =
      record {
        own = own;
        counts = λ c. eqb_sym 1 c ∙ count c;
        rules = rules;
        lines = λ cs h. one_alike l j q cs h ∙ shown cs;
        rows = λ cs h. swap _ _ b _ (one_row l j q cs h ∙ place cs) time;
      }

  pub two_children :
      {x y : ℕ} {q : Ruling} → ((c : ℕ) → eqb c 2 ≡ counted n c) → ((cs : List Claim) → first_then_of x y q cs ≡ lines_shown n p.left p.right cs) →
      true ≡ timed n (interval_of R i p) → ((cs : List Claim) → all_at i cs ≡ placed R n p i cs) → Coded R i p n (fixed n r (claim x i q ∷ claim y i q ∷ []) true)
  two_children {x = x} {y = y} {q = q} count shown time place =
      record {
        own = own;
        counts = λ c. eqb_sym 2 c ∙ count c;
        rules = rules;
        lines = λ cs h. two_alike x y i q cs h ∙ shown cs;
        rows = λ cs h. swap _ _ true _ (two_rows x y i q cs h ∙ place cs) time;
      }

  pub led_form :
      {x y : ℕ} {q : Ruling} {ks : ℕ → List ℕ} (ls : ℕ → List ℕ) {m : ℕ → Bool} {a z : ℕ} → ((c : ℕ) → leb 1 c ≡ counted n c) →
      ((cs : List Claim) → first_then_of x y q cs ≡ lines_shown n p.left p.right cs) → ((j : ℕ) → ks j ≡ ls j) →
      ((c : Claim) (cs : List Claim) → (rows_are (ls c.row) cs && m c.row) ≡ (timed n (interval_of R i p) && placed R n p i (c ∷ cs))) →
      Coded R i p n (form n r (first_then (claim x i q) (claim y i q)) a z (λ j. claim x j q ∷ each q y (ks j)) m)
  led_form {x = x} {y = y} {q = q} {ks = ks} ls {m = m} {a = a} {z = z} count shown same place =
      record { own = own; counts = count; rules = rules; lines = λ cs h. shape cs ∙ shown cs; rows = at_rows }
    where
      shape : (cs : List Claim) → lines_fit (first_then (claim x i q) (claim y i q)) cs ≡ first_then_of x y q cs
      shape [] = refl
      shape (c ∷ cs) = ap (λ t. alike (claim x i q) c && t) (all_alike_lem y i q cs)

      at_rows :
          (cs : List Claim) → lines_fit (first_then (claim x i q) (claim y i q)) cs ≡ true →
          (same_rows (claim x (first_row cs) q ∷ each q y (ks (first_row cs))) cs && m (first_row cs)) ≡ (timed n (interval_of R i p) && placed R n p i cs)
      at_rows [] h = absurd (both_ways true (sym h) refl)
      at_rows (c ∷ cs) h =
          let e = and_parts (alike (claim x i q) c) (all_alike (claim y i q) cs) h in
          ap (λ t. t && m c.row) (led_rows (claim x i q) y i q (ks c.row) c cs e.0 e.1 ∙ ap (λ k. rows_are k cs) (same c.row))
          ∙ place c cs

  pub any_form :
      {y : ℕ} {q : Ruling} {ks : List ℕ} (ls : List ℕ) {b : Bool} → ((c : ℕ) → true ≡ counted n c) →
      ((cs : List Claim) → all_of y q cs ≡ lines_shown n p.left p.right cs) → ks ≡ ls →
      ((cs : List Claim) → (rows_are ls cs && b) ≡ (timed n (interval_of R i p) && placed R n p i cs)) →
      Coded R i p n (form n r (any_of (claim y i q)) 0 1 (λ _. each q y ks) (λ _. b))
  any_form {y = y} {q = q} {ks = ks} ls {b = b} count shown same place =
      record {
        own = own;
        counts = count;
        rules = rules;
        lines = λ cs h. all_alike_lem y i q cs ∙ shown cs;
        rows = λ cs h. ap (λ t. t && b) (each_row y i q ks cs h ∙ ap (λ k. rows_are k cs) same) ∙ place cs;
      }
