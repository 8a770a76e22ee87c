-- The book: an array of records, each with an array of entries.
use Rattle.std.proofs.Common.{◌≡◌, ℕ, zero, suc, ◌<◌, Bool, true, false, cond, ◌&&◌, T as Yes, eqb, List, None, Option, length, get_or, set, replicate, sym, refl, ap, ◌∙◌, subst, eqb→eq}
use lib.Dec.{eqb_refl}
use Rattle.std.proofs.lemmas.List.{get_or-set_same, get_or-set_other}
use Rattle.mtl.specs.declared.ruling.Ruling.{Ruling}
use Rattle.cases.specs.View.{no_record}
use Rattle.cases.specs.declared.book.LineRecord.{LineRecord}

abbrev line : ℕ → LineRecord
line k = record { entries = replicate k None }

same_at : {A : Type 0} (n : ℕ) (x : A) (k : ℕ) → get_or (replicate n x) k x ≡ x
same_at zero x k = refl
same_at (suc n) x zero = refl
same_at (suc n) x (suc k) = same_at n x k

blank_line : (m k n i : ℕ) → get_or (get_or (replicate m (line k)) n no_record).entries i None ≡ None
blank_line zero k n i = refl
blank_line (suc m) k zero i = same_at k None i
blank_line (suc m) k (suc n) i = blank_line m k n i

pub book_blank : (n i : ℕ) → get_or (get_or (replicate 32 (line 128)) n no_record).entries i None ≡ None
book_blank n i = blank_line 32 128 n i

-- one line's entries are replaced
pub line_entered :
    (ls : List LineRecord) (line row : ℕ) (x : Option Ruling) (new : LineRecord) → line < length ls →
    ((i : ℕ) → get_or new.entries i None ≡ cond (eqb row i) x (get_or (get_or ls line no_record).entries i None)) → (n i : ℕ) →
    get_or (get_or (set ls line new) n no_record).entries i None ≡ cond (eqb line n && eqb row i) x (get_or (get_or ls n no_record).entries i None)
line_entered ls line row x new h e n i = go (eqb line n) (eqb→eq line n) (λ p. subst (λ m. Yes (eqb line m)) p (eqb_refl line))
  where
    go : (b : Bool) → (Yes b → line ≡ n) → (line ≡ n → Yes b) →
        get_or (get_or (set ls line new) n no_record).entries i None ≡ cond (b && eqb row i) x (get_or (get_or ls n no_record).entries i None)
    go true p q =
        subst (λ m. get_or (get_or (set ls line new) m no_record).entries i None ≡ cond (eqb row i) x (get_or (get_or ls m no_record).entries i None)) (p tt)
        (ap (λ (l : LineRecord). get_or l.entries i None) (get_or-set_same ls line new no_record h) ∙ e i)
    go false p q = ap (λ (l : LineRecord). get_or l.entries i None) (get_or-set_other ls line n new no_record (λ r. q (sym r)))
