-- The way that the code takes is the step that a cell of the plan names.
use Rattle.std.proofs.Common.{◌≡◌, ℕ, suc, ◌+◌, ◌-◌, ◌/◌, ◌%◌, ◌<◌, ◌≤◌, List, [], ◌∷◌, sym, ap, ◌∙◌, ap₂, arith}
use Rattle.writer.specs.Ways.{Way, kids_of, Makes, by_this, by_later, Takes}
use Rattle.mtl.specs.declared.line.Line.TheVariants.{Mark, And, Or, Previous, Next, Since, Until}
use Rattle.writer.specs.Choice.{code_of}
use Rattle.writer.specs.declared.offer.Pick.{Pick}
use Rattle.mtl.specs.Lists.{AllOf}
use Rattle.mtl.specs.Claims.{Held, each, claim}
use Rattle.mtl.specs.Ranges.{run, range}
use Rattle.mtl.specs.Forms.{by, Form, forms}
use Rattle.mtl.specs.declared.line.Window.{Window}
use Rattle.mtl.specs.declared.row.Row.{Row}
use Rattle.mtl.specs.declared.ruling.Ruling.{Ruling}
use Rattle.mtl.specs.declared.ruling.Ruling.TheVariants.{Held as held, Broken as broken}

-- what a cell of the plan has, read back
pub rule_in : (p : Pick) → p.row < 256 → p.rule ≡ code_of p / 256
rule_in p h = omega arith

pub row_in : (p : Pick) → p.row < 256 → p.row ≡ code_of p % 256
row_in p h = omega arith

-- a form of the ruling whose number and j the code has, has the way's children
abbrev Own : Way → Ruling → ℕ → Form → Type 0
Own w r code f = f.ruling ≡ r → (j : ℕ) → f.first ≤ j → j < f.first + f.count → code / 256 ≡ f.number → code % 256 ≡ j → f.kids j ≡ kids_of r w

pub takes : (w : Way) (r : Ruling) (code : ℕ) (fs : List Form) → w.rule ≡ code / 256 → AllOf (Own w r code) fs → Takes w r code fs
takes w r code [] e h s n = elim n [ ]
takes w r code (f ∷ fs) e h s (by_this j u a o b k q) =
    let p : code / 256 ≡ f.number = omega arith in
    let m : code % 256 ≡ j = omega arith in
    q ∙ ap₂ by (sym (e ∙ p)) (h.0 u j o b p m)
takes w r code (f ∷ fs) e h s (by_later n) = takes w r code fs e h.1 s n

pub unheld : broken ≡ held → ⊥
unheld e = let z : ◌≡◌ {A = ℕ} 0 1 = cc in absurd (omega arith)

pub unbroken : held ≡ broken → ⊥
unbroken e = let z : ◌≡◌ {A = ℕ} 0 1 = cc in absurd (omega arith)

-- by the rule and the row that the code has
module _ (w : Way) (code rule row : ℕ) (ruled : rule ≡ code / 256) (rowed : row ≡ code % 256) (R : List Row) (i : ℕ) where
  pub mark_held : (m : ℕ) → Makes w rule (λ q. []) → Takes w held code (forms R i (Mark m))
  unfolding forms
  mark_held m k = takes w held code (forms R i (Mark m)) (k.ruled ∙ ruled) ((λ u j o b n m. sym (k.kids_are held)), ((λ u. absurd (unheld u)), tt))

  pub mark_broken : (m : ℕ) → Makes w rule (λ q. []) → Takes w broken code (forms R i (Mark m))
  unfolding forms
  mark_broken m k = takes w broken code (forms R i (Mark m)) (k.ruled ∙ ruled) ((λ u. absurd (unbroken u)), ((λ u j o b n m. sym (k.kids_are broken)), tt))

  pub and_held : (l r : ℕ) → Makes w rule (λ q. claim l i q ∷ claim r i q ∷ []) → Takes w held code (forms R i (And l r))
  unfolding forms
  and_held l r k = takes w held code (forms R i (And l r)) (k.ruled ∙ ruled) ((λ u j o b n m. sym (k.kids_are held)), ((λ u. absurd (unheld u)), ((λ u. absurd (unheld u)), tt)))

  pub and_left : (l r : ℕ) → Makes w rule (λ q. claim l i q ∷ []) → rule ≡ 6 → Takes w broken code (forms R i (And l r))
  unfolding forms
  and_left l r k h0 = takes w broken code (forms R i (And l r)) (k.ruled ∙ ruled) ((λ u. absurd (unbroken u)), ((λ u j o b n m. sym (k.kids_are broken)), ((λ u j o b n m. absurd (omega arith)), tt)))

  pub and_right : (l r : ℕ) → Makes w rule (λ q. claim r i q ∷ []) → (rule ≡ 6 → ⊥) → Takes w broken code (forms R i (And l r))
  unfolding forms
  and_right l r k h0 = takes w broken code (forms R i (And l r)) (k.ruled ∙ ruled) ((λ u. absurd (unbroken u)), ((λ u j o b n m. absurd (h0 (ruled ∙ n))), ((λ u j o b n m. sym (k.kids_are broken)), tt)))

  pub or_left : (l r : ℕ) → Makes w rule (λ q. claim l i q ∷ []) → rule ≡ 8 → Takes w held code (forms R i (Or l r))
  unfolding forms
  or_left l r k h0 = takes w held code (forms R i (Or l r)) (k.ruled ∙ ruled) ((λ u j o b n m. sym (k.kids_are held)), ((λ u j o b n m. absurd (omega arith)), ((λ u. absurd (unheld u)), tt)))

  pub or_right : (l r : ℕ) → Makes w rule (λ q. claim r i q ∷ []) → (rule ≡ 8 → ⊥) → Takes w held code (forms R i (Or l r))
  unfolding forms
  or_right l r k h0 = takes w held code (forms R i (Or l r)) (k.ruled ∙ ruled) ((λ u j o b n m. absurd (h0 (ruled ∙ n))), ((λ u j o b n m. sym (k.kids_are held)), ((λ u. absurd (unheld u)), tt)))

  pub or_broken : (l r : ℕ) → Makes w rule (λ q. claim l i q ∷ claim r i q ∷ []) → Takes w broken code (forms R i (Or l r))
  unfolding forms
  or_broken l r k = takes w broken code (forms R i (Or l r)) (k.ruled ∙ ruled) ((λ u. absurd (unbroken u)), ((λ u. absurd (unbroken u)), ((λ u j o b n m. sym (k.kids_are broken)), tt)))

  pub previous_held : (v : Window) (l x : ℕ) → Makes w rule (λ q. claim l x q ∷ []) → x ≡ i - 1 → Takes w held code (forms R i (Previous v l))
  unfolding forms
  previous_held v l x k h0 = takes w held code (forms R i (Previous v l)) (k.ruled ∙ ruled) ((λ u j o b n m. ap (λ y. claim l y held ∷ []) (sym h0) ∙ sym (k.kids_are held)), ((λ u. absurd (unheld u)), ((λ u. absurd (unheld u)), ((λ u. absurd (unheld u)), ((λ u. absurd (unheld u)), tt)))))

  pub previous_one : (v : Window) (l x : ℕ) → Makes w rule (λ q. claim l x q ∷ []) → x ≡ i - 1 → rule ≡ 12 → Takes w broken code (forms R i (Previous v l))
  unfolding forms
  previous_one v l x k h0 h1 = takes w broken code (forms R i (Previous v l)) (k.ruled ∙ ruled) ((λ u. absurd (unbroken u)), ((λ u j o b n m. ap (λ y. claim l y broken ∷ []) (sym h0) ∙ sym (k.kids_are broken)), ((λ u j o b n m. absurd (omega arith)), ((λ u j o b n m. absurd (omega arith)), ((λ u j o b n m. absurd (omega arith)), tt)))))

  pub previous_leaf : (v : Window) (l : ℕ) → Makes w rule (λ q. []) → (rule ≡ 12 → ⊥) → Takes w broken code (forms R i (Previous v l))
  unfolding forms
  previous_leaf v l k h0 = takes w broken code (forms R i (Previous v l)) (k.ruled ∙ ruled) ((λ u. absurd (unbroken u)), ((λ u j o b n m. absurd (h0 (ruled ∙ n))), ((λ u j o b n m. sym (k.kids_are broken)), ((λ u j o b n m. sym (k.kids_are broken)), ((λ u j o b n m. sym (k.kids_are broken)), tt)))))

  pub next_held : (v : Window) (l : ℕ) → Makes w rule (λ q. claim l (i + 1) q ∷ []) → Takes w held code (forms R i (Next v l))
  unfolding forms
  next_held v l k = takes w held code (forms R i (Next v l)) (k.ruled ∙ ruled) ((λ u j o b n m. sym (k.kids_are held)), ((λ u. absurd (unheld u)), ((λ u. absurd (unheld u)), ((λ u. absurd (unheld u)), tt))))

  pub next_one : (v : Window) (l : ℕ) → Makes w rule (λ q. claim l (i + 1) q ∷ []) → rule ≡ 17 → Takes w broken code (forms R i (Next v l))
  unfolding forms
  next_one v l k h0 = takes w broken code (forms R i (Next v l)) (k.ruled ∙ ruled) ((λ u. absurd (unbroken u)), ((λ u j o b n m. sym (k.kids_are broken)), ((λ u j o b n m. absurd (omega arith)), ((λ u j o b n m. absurd (omega arith)), tt))))

  pub next_leaf : (v : Window) (l : ℕ) → Makes w rule (λ q. []) → (rule ≡ 17 → ⊥) → Takes w broken code (forms R i (Next v l))
  unfolding forms
  next_leaf v l k h0 = takes w broken code (forms R i (Next v l)) (k.ruled ∙ ruled) ((λ u. absurd (unbroken u)), ((λ u j o b n m. absurd (h0 (ruled ∙ n))), ((λ u j o b n m. sym (k.kids_are broken)), ((λ u j o b n m. sym (k.kids_are broken)), tt))))

  since_kids : (l r x j : ℕ) → x ≡ j → Held r j ∷ each held l (range (j + 1) i) ≡ claim r x held ∷ each held l (run (x + 1) (i + 1 - (x + 1)))
  unfolding range
  since_kids l r x j e =
      let z : suc i - (j + 1) ≡ i + 1 - (j + 1) = omega arith in
      ap (λ y. Held r j ∷ each held l (run (j + 1) y)) z ∙ ap (λ y. claim r y held ∷ each held l (run (y + 1) (i + 1 - (y + 1)))) (sym e)

  pub since_held : (v : Window) (l r : ℕ) → Makes w rule (λ q. claim r row q ∷ each q l (run (row + 1) (i + 1 - (row + 1)))) → Takes w held code (forms R i (Since v l r))
  unfolding forms
  since_held v l r k = takes w held code (forms R i (Since v l r)) (k.ruled ∙ ruled) ((λ u j o b n m. since_kids l r row j (rowed ∙ m) ∙ sym (k.kids_are held)), ((λ u. absurd (unheld u)), ((λ u. absurd (unheld u)), ((λ u. absurd (unheld u)), tt))))

  pub until_held : (v : Window) (l r : ℕ) → Makes w rule (λ q. claim r row q ∷ each q l (run i (row - i))) → Takes w held code (forms R i (Until v l r))
  unfolding forms
  until_held v l r k = takes w held code (forms R i (Until v l r)) (k.ruled ∙ ruled) ((λ u j o b n m. ap (λ y. claim r y held ∷ each held l (run i (y - i))) (sym (rowed ∙ m)) ∙ sym (k.kids_are held)), ((λ u. absurd (unheld u)), ((λ u. absurd (unheld u)), tt)))
