-- The lines after an entry.
use Rattle.std.proofs.Common.{◌≡◌, ℕ, ◌<◌, true, ltb, [], ◌∷◌, ◌++◌, length, length-append, Some, Option, sym, ap, ◌∙◌, subst, below_more, arith}
use Rattle.std.proofs.Math.ListN.{get_or-append}
use Rattle.std.proofs.Math.Seq.{get_or-append_seam}
use Rattle.std.proofs.lemmas.Bool.{cond-true, lt-ltb}
use Rattle.mtl.specs.Questions.{first_no}
use Rattle.mtl.specs.Lines.{Rules, Line, mark, fits, line_at as at, WellFormed}
use Rattle.mtl.specs.Entering.{line_questions, kind_questions, line_if, line_of}
use Rattle.mtl.specs.declared.line.Fields.{Fields}
use Rattle.mtl.specs.declared.line.Kind.{Kind}

-- with room and a known kind, the kind's own questions decide
pub asked :
    (n m : ℕ) (o : Option Kind) (k : Kind) (f : Fields) → m ≡ n → n < 32 → Some k ≡ o →
    first_no (kind_questions n k f) ≡ first_no ((1, ltb m 32) ∷ line_questions m o f)
asked n m o k f same room is =
    subst (λ x. first_no (kind_questions n k f) ≡ first_no ((1, ltb x 32) ∷ line_questions x o f)) (sym same)
    (subst (λ x. first_no (kind_questions n k f) ≡ first_no ((1, ltb n 32) ∷ line_questions n x f)) is
    (sym (cond-true (ltb n 32) _ _ (lt-ltb n 32 room))))

pub line_at : (o : Option Kind) (k : Kind) (f : Fields) → Some k ≡ o → line_if o f ≡ line_of k f ∷ []
line_at o k f is = ap (λ x. line_if x f) (sym is)

-- one more line that fits
pub fits_more : (T : Rules) (l : Line) → WellFormed T → fits (length T) l ≡ true → WellFormed (T ++ l ∷ [])
fits_more T l old new n h =
    below_more (λ k. fits k (at (T ++ l ∷ []) k) ≡ true) (length T)
    (λ k lt. ap (fits k) (get_or-append T (l ∷ []) (mark 0) k lt) ∙ old k lt)
    (ap (fits (length T)) (get_or-append_seam T l [] (mark 0)) ∙ new)
    n (omega (arith, length-append T (l ∷ [])))

-- a list that is one more line which fits
pub entered_fits : (T : Rules) (l : Line) (after : Rules) → after ≡ T ++ l ∷ [] → WellFormed T → fits (length T) l ≡ true → WellFormed after
entered_fits T l after is old new = subst WellFormed (sym is) (fits_more T l old new)
