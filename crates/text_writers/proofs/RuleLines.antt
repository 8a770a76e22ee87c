-- A written rule line is in form, and the table takes it.
use Rattle.std.proofs.Common.{◌≡◌, ℕ, ◌^◌, ◌<◌, ◌≤◌, true, ◌&&◌, ltb, List, [], ◌∷◌, ◌++◌, length, Some, None, Ok, decimal, Option, sym, refl, ap, ◌∙◌, arith}
use Rattle.std.proofs.lemmas.Bool.{cond-true, and_parts, eq-eqb, ltb-true}
use Rattle.std.proofs.lemmas.Bool.Decides.{nat_tests}
use Rattle.mtl.specs.Questions.{first_no, answer}
use Rattle.mtl.specs.Kinds.{kind_at, has_window, has_right}
use Rattle.mtl.specs.Lines.{Rules, fits, ordered, present}
use Rattle.mtl.specs.Entering.{kind_questions, enter_answer, after_answer, line_of, line_if, line_questions}
use Rattle.mtl.specs.declared.line.Kind.{Kind}
use Rattle.mtl.specs.declared.line.Kind.TheVariants.{Mark as KMark, Not as KNot, And as KAnd, Or as KOr, Previous as KPrevious, Next as KNext, Since as KSince, Until as KUntil}
use Rattle.mtl.specs.declared.line.Line.{Line}
use Rattle.mtl.specs.declared.line.Line.TheVariants.{Mark, Not, And, Or, Previous, Next, Since, Until}
use Rattle.mtl.proofs.Entered.{asked, line_at}
use Rattle.texts.specs.Forms.{used_in, end_in, next_in, same_number, some_number, letter_in, rest_by, formed, spot, or_fault, and_then}
use Rattle.texts.specs.Outcomes.{accepts}
use Rattle.texts.specs.Rules.{enters, by_table}
use Rattle.fields.specs.Tokens.{said_by}
use Rattle.texts.specs.declared.entry.Entry.{Entry}
use Rattle.text_writers.specs.Laws.{EndFits, LineFits}
use Rattle.text_writers.specs.RuleTexts.{unused, end_field, rule_fields}
use Rattle.text_writers.proofs.Numbers.{number_back, said_decimal}

pub used_back : (n : ℕ) → n < 2 ^ 32 → used_in true (said_by (decimal n)) ≡ Some n
used_back n h = ap (used_in true) (said_decimal n (omega arith)) ∙ number_back 4294967295 n (omega arith) (omega arith)

next_back : (n : ℕ) → n < 2 ^ 32 → next_in n (said_by (decimal n)) ≡ Some n
next_back n h = ap (same_number n) (used_back n h) ∙ cond-true _ _ _ (eq-eqb n n refl)

end_back : (to : Option ℕ) → EndFits to → end_in true (said_by (end_field to)) ≡ Some to
end_back None h = refl
end_back (Some n) h = ap (end_in true) (said_decimal n (omega arith)) ∙ ap some_number (number_back 4294967295 n (omega arith) (omega arith))

abbrev pub entry : ℕ → ℕ → Option ℕ → ℕ → ℕ → Entry
entry c fr to l r = record { letter = c; fields = record { from = fr; to = to; left = l; right = r } }

-- six fields that are each in form
formed_by :
    (line n c : ℕ) (k : Kind) (d e g : List ℕ) (fr : ℕ) (to : Option ℕ) (l r : ℕ) →
    n ≤ 32 → letter_in (said_by (c ∷ [])) ≡ Some c → kind_at c ≡ Some k → used_in (has_window k) (said_by d) ≡ Some fr → end_in (has_window k) (said_by e) ≡ Some to →
    l < 2 ^ 32 → used_in (has_right k) (said_by g) ≡ Some r →
    formed line n (decimal n ∷ (c ∷ []) ∷ d ∷ e ∷ decimal l ∷ g ∷ []) ≡ Ok (entry c fr to l r)
formed_by line n c k d e g fr to l r hn hb hk hd he hl hg =
    (λ i. and_then (or_fault (spot line 1 (decimal n)) (next_back n (omega arith) i)) (λ _. and_then (or_fault (spot line 2 (c ∷ [])) (hb i)) (λ c. rest_by c (kind_at c) (spot line 3 d) (spot line 4 e) (spot line 5 (decimal l)) (spot line 6 g))))
    ∙ ap (λ o. rest_by c o (spot line 3 d) (spot line 4 e) (spot line 5 (decimal l)) (spot line 6 g)) hk
    ∙ (λ i. and_then (or_fault (spot line 3 d) (hd i)) (λ fr. and_then (or_fault (spot line 4 e) (he i)) (λ to. and_then (or_fault (spot line 5 (decimal l)) (used_back l hl i)) (λ l. and_then (or_fault (spot line 6 g) (hg i)) (λ r. Ok (entry c fr to l r))))))

-- the kind of a line, its letter, and what it is entered with
abbrev pub kind_of : Line → Kind
kind_of (Mark m) = KMark
kind_of (Not l) = KNot
kind_of (And l r) = KAnd
kind_of (Or l r) = KOr
kind_of (Previous w l) = KPrevious
kind_of (Next w l) = KNext
kind_of (Since w l r) = KSince
kind_of (Until w l r) = KUntil

abbrev pub entry_of : Line → Entry
entry_of (Mark m) = entry 109 0 None m 0
entry_of (Not l) = entry 110 0 None l 0
entry_of (And l r) = entry 97 0 None l r
entry_of (Or l r) = entry 111 0 None l r
entry_of (Previous w l) = entry 112 w.from w.to l 0
entry_of (Next w l) = entry 120 w.from w.to l 0
entry_of (Since w l r) = entry 115 w.from w.to l r
entry_of (Until w l r) = entry 117 w.from w.to l r

letter_kind : (l : Line) → kind_at (entry_of l).letter ≡ Some (kind_of l)
letter_kind (Mark m) = refl
letter_kind (Not l) = refl
letter_kind (And l r) = refl
letter_kind (Or l r) = refl
letter_kind (Previous w l) = refl
letter_kind (Next w l) = refl
letter_kind (Since w l r) = refl
letter_kind (Until w l r) = refl

pub line_back : (l : Line) → line_of (kind_of l) (entry_of l).fields ≡ l
line_back (Mark m) = refl
line_back (Not l) = refl
line_back (And l r) = refl
line_back (Or l r) = refl
line_back (Previous w l) = refl
line_back (Next w l) = refl
line_back (Since w l r) = refl
line_back (Until w l r) = refl

yes_to_all : (n : ℕ) (l : Line) → fits n l ≡ true → first_no (kind_questions n (kind_of l) (entry_of l).fields) ≡ None
yes_to_all n (Mark m) h = grind (arith, nat_tests)
yes_to_all n (Not l) h = grind (arith, nat_tests)
yes_to_all n (And l r) h = grind (arith, nat_tests)
yes_to_all n (Or l r) h = grind (arith, nat_tests)
yes_to_all n (Previous w l) h = grind (arith, nat_tests)
yes_to_all n (Next w l) h = grind (arith, nat_tests)
yes_to_all n (Since w l r) h = grind (arith, nat_tests)
yes_to_all n (Until w l r) h = grind (arith, nat_tests)

-- a line that fits, after T, is taken
pub taken : (n : ℕ) (T : Rules) (l : Line) → length T < 32 → fits (length T) l ≡ true → enters n T (entry_of l) ≡ accepts (T ++ l ∷ [])
taken n T l room h =
    let e = entry_of l in
    let no : first_no ((1, ltb (length T) 32) ∷ line_questions (length T) (kind_at e.letter) e.fields) ≡ None =
    sym (asked (length T) (length T) (kind_at e.letter) (kind_of l) e.fields refl room (sym (letter_kind l))) ∙ yes_to_all (length T) l h in
    let ok : enter_answer T e.letter e.fields ≡ Ok tt = ap (λ o. answer o tt) no in
    let line : line_if (kind_at e.letter) e.fields ≡ l ∷ [] = line_at (kind_at e.letter) (kind_of l) e.fields (sym (letter_kind l)) ∙ ap (λ x. x ∷ []) (line_back l) in
    (λ i. record { entries = after_answer (ok i) T e.letter e.fields; refused = by_table n (ok i) })
    ∙ ap (λ ls. accepts (T ++ ls)) line

-- the fields of a line that fits
pub small : (l n : ℕ) → n ≤ 32 → ltb l n ≡ true → l < 2 ^ 32
small l n h e = omega (arith, ltb-true l n e)

pub formed_line : (line n : ℕ) (l : Line) → n ≤ 32 → fits n l ≡ true → LineFits l → formed line n (rule_fields n l) ≡ Ok (entry_of l)
formed_line line n (Mark m) h f w = formed_by line n 109 KMark unused unused unused 0 None m 0 h refl refl refl refl (small m 32 (omega arith) f) refl
formed_line line n (Not l) h f w = formed_by line n 110 KNot unused unused unused 0 None l 0 h refl refl refl refl (small l n h f) refl
formed_line line n (And l r) h f w =
    let p = and_parts (ltb l n) (ltb r n) f in
    formed_by line n 97 KAnd unused unused (decimal r) 0 None l r h refl refl refl refl (small l n h p.0) (used_back r (small r n h p.1))
formed_line line n (Or l r) h f w =
    let p = and_parts (ltb l n) (ltb r n) f in
    formed_by line n 111 KOr unused unused (decimal r) 0 None l r h refl refl refl refl (small l n h p.0) (used_back r (small r n h p.1))
formed_line line n (Previous v l) h f w =
    let p = and_parts (ltb l n) (ordered v.from v.to) f in
    formed_by line n 112 KPrevious (decimal v.from) (end_field v.to) unused v.from v.to l 0 h refl refl (used_back v.from w.0) (end_back v.to w.1) (small l n h p.0) refl
formed_line line n (Next v l) h f w =
    let p = and_parts (ltb l n) (ordered v.from v.to) f in
    formed_by line n 120 KNext (decimal v.from) (end_field v.to) unused v.from v.to l 0 h refl refl (used_back v.from w.0) (end_back v.to w.1) (small l n h p.0) refl
formed_line line n (Since v l r) h f w =
    let p = and_parts (ltb l n) (ltb r n && ordered v.from v.to) f in
    let q = and_parts (ltb r n) (ordered v.from v.to) p.1 in
    formed_by line n 115 KSince (decimal v.from) (end_field v.to) (decimal r) v.from v.to l r h refl refl (used_back v.from w.0) (end_back v.to w.1) (small l n h p.0) (used_back r (small r n h q.0))
formed_line line n (Until v l r) h f w =
    let p = and_parts (ltb l n) (ltb r n && (ordered v.from v.to && present v.to)) f in
    let q = and_parts (ltb r n) (ordered v.from v.to && present v.to) p.1 in
    formed_by line n 117 KUntil (decimal v.from) (end_field v.to) (decimal r) v.from v.to l r h refl refl (used_back v.from w.0) (end_back v.to w.1) (small l n h p.0) (used_back r (small r n h q.0))
