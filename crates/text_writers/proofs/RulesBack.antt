-- The text of a table is read as the table.
use Rattle.std.proofs.Common.{◌≡◌, ℕ, ◌+◌, ◌*◌, ◌<◌, ◌≤◌, true, ◌&&◌, ltb, List, [], ◌∷◌, ◌++◌, map, length, Some, None, codes, Option, sym, refl, ap, ◌∙◌, subst, arith}
use Rattle.std.proofs.lemmas.List.{append-nil, append_assoc, length-append, length_push, get_or_at}
use Rattle.std.proofs.lemmas.Bool.{cond-true, and_parts}
use Rattle.mtl.specs.Lines.{Rules, fits, ordered, present, WellFormed, line_at}
use Rattle.mtl.specs.declared.line.Line.{Line}
use Rattle.mtl.specs.declared.line.Line.TheVariants.{Mark, Not, And, Or, Previous, Next, Since, Until}
use Rattle.fields.specs.Cuts.{fields_of, shaped}
use Rattle.texts.specs.Outcomes.{accepts, goes_on, read_lines, read_parts}
use Rattle.texts.specs.Rules.{read_rule, enters_if, read_named}
use Rattle.text_writers.specs.Writing.{line_text, text_of}
use Rattle.text_writers.specs.RuleTexts.{unused, end_field, rule_fields, field_names, rules_from, rules_text}
use Rattle.text_writers.specs.Laws.{EndFits, LineFits, WindowsFit, RulesBack}
use Rattle.text_writers.proofs.Cut.{Plain, none, between, parts_back}
use Rattle.text_writers.proofs.Good.{Good, AllGood, end, and, literal, good_decimal, good_shaped, good_fields, good_plain, line_length}
use Rattle.text_writers.proofs.RuleLines.{taken, formed_line, small}

good_unused : Good unused
good_unused = literal unused refl

good_end : (to : Option ℕ) → EndFits to → Good (end_field to)
good_end None h = good_unused
good_end (Some n) h = good_decimal n h

good_six : (a b d e f g : List ℕ) → Good a → Good b → Good d → Good e → Good f → Good g → AllGood (a ∷ b ∷ d ∷ e ∷ f ∷ g ∷ [])
good_six a b d e f g ha hb hd he hf hg = and a _ ha (and b _ hb (and d _ hd (and e _ he (and f _ hf (and g _ hg end)))))

good_rule : (n : ℕ) (l : Line) → n ≤ 32 → fits n l ≡ true → LineFits l → AllGood (rule_fields n l)
good_rule n (Mark m) h f w = good_six _ _ _ _ _ _ (good_decimal n (omega arith)) (literal (codes "m") refl) good_unused good_unused (good_decimal m (small m 32 (omega arith) f)) good_unused
good_rule n (Not l) h f w = good_six _ _ _ _ _ _ (good_decimal n (omega arith)) (literal (codes "n") refl) good_unused good_unused (good_decimal l (small l n h f)) good_unused
good_rule n (And l r) h f w =
    let p = and_parts (ltb l n) (ltb r n) f in
    good_six _ _ _ _ _ _ (good_decimal n (omega arith)) (literal (codes "a") refl) good_unused good_unused (good_decimal l (small l n h p.0)) (good_decimal r (small r n h p.1))
good_rule n (Or l r) h f w =
    let p = and_parts (ltb l n) (ltb r n) f in
    good_six _ _ _ _ _ _ (good_decimal n (omega arith)) (literal (codes "o") refl) good_unused good_unused (good_decimal l (small l n h p.0)) (good_decimal r (small r n h p.1))
good_rule n (Previous v l) h f w =
    let p = and_parts (ltb l n) (ordered v.from v.to) f in
    good_six _ _ _ _ _ _ (good_decimal n (omega arith)) (literal (codes "p") refl) (good_decimal v.from w.0) (good_end v.to w.1) (good_decimal l (small l n h p.0)) good_unused
good_rule n (Next v l) h f w =
    let p = and_parts (ltb l n) (ordered v.from v.to) f in
    good_six _ _ _ _ _ _ (good_decimal n (omega arith)) (literal (codes "x") refl) (good_decimal v.from w.0) (good_end v.to w.1) (good_decimal l (small l n h p.0)) good_unused
good_rule n (Since v l r) h f w =
    let p = and_parts (ltb l n) (ltb r n && ordered v.from v.to) f in
    let q = and_parts (ltb r n) (ordered v.from v.to) p.1 in
    good_six _ _ _ _ _ _ (good_decimal n (omega arith)) (literal (codes "s") refl) (good_decimal v.from w.0) (good_end v.to w.1) (good_decimal l (small l n h p.0)) (good_decimal r (small r n h q.0))
good_rule n (Until v l r) h f w =
    let p = and_parts (ltb l n) (ltb r n && (ordered v.from v.to && present v.to)) f in
    let q = and_parts (ltb r n) (ordered v.from v.to && present v.to) p.1 in
    good_six _ _ _ _ _ _ (good_decimal n (omega arith)) (literal (codes "u") refl) (good_decimal v.from w.0) (good_end v.to w.1) (good_decimal l (small l n h p.0)) (good_decimal r (small r n h q.0))

pub six : (n : ℕ) (l : Line) → length (rule_fields n l) ≡ 6
six n (Mark m) = refl
six n (Not l) = refl
six n (And l r) = refl
six n (Or l r) = refl
six n (Previous w l) = refl
six n (Next w l) = refl
six n (Since w l r) = refl
six n (Until w l r) = refl

-- the next line of a table is read
reads_line : (n : ℕ) (T : Rules) (l : Line) → length T < 32 → fits (length T) l ≡ true → LineFits l → read_rule n T (fields_of (between (rule_fields (length T) l))) ≡ accepts (T ++ l ∷ [])
reads_line n T l room f w =
    let fs = rule_fields (length T) l in
    let good = good_rule (length T) l (omega arith) f w in
    let shape : shaped 6 fs ≡ true = ap (λ k. shaped k fs) (sym (six (length T) l)) ∙ good_shaped fs good in
    ap (read_rule n T) (good_fields fs (omega (arith, six (length T) l)) good) ∙ cond-true _ _ _ shape ∙ ap (enters_if n T) (formed_line n (length T) l (omega arith) f w) ∙ taken n T l room f

-- what the lines from a place of the table on keep
record Stands (S rest : Rules) : Type 0 where
  formed : WellFormed (S ++ rest)
  windows : WindowsFit (S ++ rest)
  few : length (S ++ rest) ≤ 32

module _ (S : Rules) (l : Line) (ls : Rules) (s : Stands S (l ∷ ls)) where
  room : length S < 32
  room = omega (arith, s.few, length-append S (l ∷ ls))

  here : line_at (S ++ l ∷ ls) (length S) ≡ l
  here = get_or_at S l ls (Mark 0) (length S) refl

  here_fits : fits (length S) l ≡ true
  here_fits = ap (fits (length S)) (sym here) ∙ s.formed (length S) (omega (arith, length-append S (l ∷ ls)))

  here_window : LineFits l
  here_window = subst LineFits here (s.windows (length S) (omega (arith, length-append S (l ∷ ls))))

  onward : Stands (S ++ l ∷ []) ls
  onward =
      let same : S ++ l ∷ ls ≡ (S ++ l ∷ []) ++ ls = sym (append_assoc S (l ∷ []) ls) in
      record { formed = subst WellFormed same s.formed; windows = subst WindowsFit same s.windows; few = subst (λ T. length T ≤ 32) same s.few }

reads_on : (n : ℕ) (S rest : Rules) → Stands S rest → read_lines read_rule n (map between (rules_from (length S) rest)) S ≡ accepts (S ++ rest)
reads_on n S [] s = ap accepts (sym (append-nil S))
reads_on n S (l ∷ ls) s =
    let T = S ++ l ∷ [] in
    ap (λ o. goes_on o (λ more. read_lines read_rule (n + 1) (map between (rules_from (length S + 1) ls)) more)) (reads_line n S l (room S l ls s) (here_fits S l ls s) (here_window S l ls s))
    ∙ ap (λ k. read_lines read_rule (n + 1) (map between (rules_from k ls)) T) (sym (length_push S l))
    ∙ reads_on (n + 1) T ls (onward S l ls s)
    ∙ ap accepts (append_assoc S (l ∷ []) ls)

plain_on : (S rest : Rules) → Stands S rest → Plain (rules_from (length S) rest) × (length (text_of (rules_from (length S) rest)) ≤ 67 * length rest)
plain_on S [] s = (none, omega arith)
plain_on S (l ∷ ls) s =
    let fs = rule_fields (length S) l in
    let good = good_rule (length S) l (omega (arith, room S l ls s)) (here_fits S l ls s) (here_window S l ls s) in
    let rest = subst (λ k. Plain (rules_from k ls) × (length (text_of (rules_from k ls)) ≤ 67 * length ls)) (length_push S l) (plain_on (S ++ l ∷ []) ls (onward S l ls s)) in (
      good_plain fs (rules_from (length S + 1) ls) (omega (arith, six (length S) l)) good rest.0,
      omega (arith, rest.1, line_length fs good, six (length S) l, length-append (line_text fs) (text_of (rules_from (length S + 1) ls))),
    )

good_names : AllGood field_names
good_names =
    good_six _ _ _ _ _ _ (literal (codes "line") refl) (literal (codes "kind") refl) (literal (codes "from") refl) (literal (codes "to") refl) (literal (codes "left") refl) (literal (codes "right") refl)

pub rules_back : RulesBack
rules_back T formed windows few =
    let s : Stands [] T = record { formed = formed; windows = windows; few = few } in
    let p = plain_on [] T s in
    let short : length (rules_text T) ≤ 16384 = omega (arith, p.1, line_length field_names good_names, length-append (line_text field_names) (text_of (rules_from 0 T))) in
    ap (λ r. read_parts read_named r []) (parts_back field_names (rules_from 0 T) (good_plain field_names (rules_from 0 T) (omega arith) good_names p.0) short)
    ∙ reads_on 2 [] T s
