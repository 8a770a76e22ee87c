-- A rules text that is read without fault is the text of its table.
use Rattle.std.proofs.Common.{◌≡◌, ℕ, ◌+◌, Bool, true, false, cond, ltb, List, [], ◌∷◌, ◌++◌, length, Some, None, Ok, Err, codes, decimal, Option, Result, sym, refl, ap, ◌∙◌, arith}
use Rattle.std.specs.Str.{bytes_eq}
use Rattle.std.proofs.lemmas.Slice.Eq.{bytes_eq-Decides}
use Rattle.std.proofs.lemmas.List.{append-nil, append_assoc, length_push}
use Rattle.std.proofs.lemmas.Bool.Decides.{nat_tests}
use Rattle.mtl.specs.Questions.{first_no, answer}
use Rattle.mtl.specs.Kinds.{kind_at, has_window, has_right}
use Rattle.mtl.specs.Lines.{Rules}
use Rattle.mtl.specs.Entering.{line_questions, after_answer, line_of, line_if}
use Rattle.mtl.specs.declared.line.Fields.{Fields}
use Rattle.mtl.specs.declared.line.Kind.{Kind}
use Rattle.mtl.specs.declared.line.Kind.TheVariants.{Mark, Not, And, Or, Previous, Next, Since, Until}
use Rattle.mtl.specs.declared.line.Line.{Line}
use Rattle.fields.specs.Cuts.{fields_of, shaped}
use Rattle.texts.specs.Faults.{in_text}
use Rattle.texts.specs.declared.fault.Told.{Told}
use Rattle.texts.specs.Forms.{used_in, end_in, rest_by, formed, spot, in_form, next_in, letter_in}
use Rattle.texts.specs.Lines.{Parts, parts_of}
use Rattle.texts.specs.Outcomes.{Outcome, refuses, goes_on, read_lines, read_parts}
use Rattle.texts.specs.Rules.{read_rule, enters, enters_if, by_table, read_named}
use Rattle.fields.specs.Tokens.{said_by}
use Rattle.fields.proofs.Shapes.{shaped_length}
use Rattle.texts.specs.declared.entry.Entry.{Entry}
use Rattle.texts.specs.declared.fault.TextFault.{TextFault}
use Rattle.text_writers.specs.Writing.{line_text, text_of}
use Rattle.text_writers.specs.RuleTexts.{unused, end_field, rule_fields, rules_from, rules_text}
use Rattle.text_writers.specs.Laws.{RulesOnly, RulesDiffer}
use Rattle.text_writers.proofs.Joined.{joined_lines, split, line_is, went}
use Rattle.text_writers.proofs.RuleLines.{entry}
use Rattle.text_writers.proofs.Said.{used_is, unused_is, end_is, no_end_is, next_is, letter_is, through, in_form_lem, of_six}
use Rattle.text_writers.proofs.Variants.{ok_same}

-- the letter of a kind

abbrev letter_of : Kind → ℕ
letter_of Mark = 109
letter_of Not = 110
letter_of And = 97
letter_of Or = 111
letter_of Previous = 112
letter_of Next = 120
letter_of Since = 115
letter_of Until = 117

letter_kind : (c : ℕ) (k : Kind) → kind_at c ≡ Some k → c ≡ letter_of k
letter_kind c k h = grind (arith, nat_tests)

-- the fields of a line, by its kind and what it is entered with

abbrev used_field : Bool → ℕ → List ℕ
used_field true n = decimal n
used_field false n = unused

abbrev ended_field : Bool → Option ℕ → List ℕ
ended_field true to = end_field to
ended_field false to = unused

used_by : (b : Bool) (w : List ℕ) (n : ℕ) → used_in b (said_by w) ≡ Some n → w ≡ used_field b n
used_by true w n h = used_is w n h
used_by false w n h = unused_is w n h

ended_by : (b : Bool) (w : List ℕ) (to : Option ℕ) → end_in b (said_by w) ≡ Some to → w ≡ ended_field b to
ended_by true w to h = end_is w to h
ended_by false w to h = no_end_is w to h

abbrev fields_by : ℕ → Kind → Fields → List (List ℕ)
fields_by n k f =
    decimal n ∷ (letter_of k ∷ []) ∷ used_field (has_window k) f.from ∷ ended_field (has_window k) f.to ∷ decimal f.left ∷ used_field (has_right k) f.right ∷ []

fields_by_lem : (n : ℕ) (k : Kind) (f : Fields) → fields_by n k f ≡ rule_fields n (line_of k f)
fields_by_lem n Mark f = refl
fields_by_lem n Not f = refl
fields_by_lem n And f = refl
fields_by_lem n Or f = refl
fields_by_lem n Previous f = refl
fields_by_lem n Next f = refl
fields_by_lem n Since f = refl
fields_by_lem n Until f = refl

-- six fields in form, of a known kind

record Formed (n : ℕ) (e : Entry) (fs : List (List ℕ)) : Type 0 where
  at : (k : Kind) → kind_at e.letter ≡ Some k → fs ≡ rule_fields n (line_of k e.fields)

rest_is : (line n c : ℕ) (a b d e f g : List ℕ) (o : Option Kind) (x : Entry) → a ≡ decimal n → b ≡ c ∷ [] → kind_at c ≡ o →
    rest_by c o (spot line 3 d) (spot line 4 e) (spot line 5 f) (spot line 6 g) ≡ Ok x → Formed n x (a ∷ b ∷ d ∷ e ∷ f ∷ g ∷ [])
rest_is line n c a b d e f g None x ha hb ho h =
    let same : entry c 0 None 0 0 ≡ x = ok_same h in
    record { at = λ k is. let none : None ≡ Some k = sym ho ∙ ap (λ (y : Entry). kind_at y.letter) same ∙ is in absurd (cc) }
rest_is line n c a b d e f g (Some k) x ha hb ho h =
    let from = through (in_form (used_in (has_window k)) (spot line 3 d)) _ x h in
    let to = through (in_form (end_in (has_window k)) (spot line 4 e)) _ x from.rest in
    let left = through (in_form (used_in true) (spot line 5 f)) _ x to.rest in
    let right = through (in_form (used_in (has_right k)) (spot line 6 g)) _ x left.rest in
    let same : entry c from.value to.value left.value right.value ≡ x = ok_same right.rest in
    let hd = used_by (has_window k) d from.value (in_form_lem (spot line 3 d) _ from.value from.is) in
    let he = ended_by (has_window k) e to.value (in_form_lem (spot line 4 e) _ to.value to.is) in
    let hf = used_is f left.value (in_form_lem (spot line 5 f) _ left.value left.is) in
    let hg = used_by (has_right k) g right.value (in_form_lem (spot line 6 g) _ right.value right.is) in
    let hc = hb ∙ ap (λ y. y ∷ []) (letter_kind c k ho) in
    let fields : a ∷ b ∷ d ∷ e ∷ f ∷ g ∷ [] ≡ fields_by n k (entry c from.value to.value left.value right.value).fields = λ i. ha i ∷ hc i ∷ hd i ∷ he i ∷ hf i ∷ hg i ∷ [] in
    record {
      at = λ j is.
          let kind : Some k ≡ Some j = sym ho ∙ ap (λ (y : Entry). kind_at y.letter) same ∙ is in
          let kinds : k ≡ j = cc in
          fields ∙ (λ i. fields_by n (kinds i) (same i).fields) ∙ fields_by_lem n j x.fields;
    }

formed_is : (line n : ℕ) (a b d e f g : List ℕ) (x : Entry) → formed line n (a ∷ b ∷ d ∷ e ∷ f ∷ g ∷ []) ≡ Ok x → Formed n x (a ∷ b ∷ d ∷ e ∷ f ∷ g ∷ [])
formed_is line n a b d e f g x h =
    let number = through (in_form (next_in n) (spot line 1 a)) _ x h in
    let letter = through (in_form letter_in (spot line 2 b)) _ x number.rest in
    let c = letter.value in
    rest_is line n c a b d e f g (kind_at c) x
    (next_is a n number.value (in_form_lem (spot line 1 a) _ number.value number.is))
    (letter_is b c (in_form_lem (spot line 2 b) _ c letter.is)) refl letter.rest

-- a line that is taken is the next line of the table

record Next1 (T : Rules) (fs : List (List ℕ)) (o : Outcome Line) : Type 0 where
  line : Line
  entries : o.entries ≡ T ++ line ∷ []
  fields : fs ≡ rule_fields (length T) line

abbrev asks : Bool → ℕ → Option Kind → Fields → Result (Unit {0}) ℕ
asks full n o f = answer (first_no ((1, full) ∷ line_questions n o f)) tt

known : (full : Bool) (n : ℕ) (o : Option Kind) (f : Fields) (m : ℕ) → by_table m (asks full n o f) ≡ None → (k : Kind) × (o ≡ Some k) × (asks full n o f ≡ Ok tt)
known false n o f m h = absurd (cc)
known true n None f m h = absurd (cc)
known true n (Some k) f m h = (k, refl, go (asks true n (Some k) f) h)
  where
    go : (r : Result (Unit {0}) ℕ) → by_table m r ≡ None → r ≡ Ok tt
    go (Ok tt) h = refl
    go (Err q) h = absurd (cc)

entered_is : (m : ℕ) (T : Rules) (fs : List (List ℕ)) (e : Entry) → Formed (length T) e fs → (enters m T e).refused ≡ None → Next1 T fs (enters m T e)
entered_is m T fs e f h =
    let k = known (ltb (length T) 32) (length T) (kind_at e.letter) e.fields m h in
    record {
      line = line_of k.0 e.fields;
      entries = ap (λ r. after_answer r T e.letter e.fields) k.2 ∙ ap (λ o. T ++ line_if o e.fields) k.1;
      fields = f.at k.0 k.1;
    }

if_formed : (m : ℕ) (T : Rules) (fs : List (List ℕ)) (r : Result Entry TextFault) → ((e : Entry) → r ≡ Ok e → Formed (length T) e fs) → (enters_if m T r).refused ≡ None → Next1 T fs (enters_if m T r)
if_formed m T fs (Ok e) made h = entered_is m T fs e (made e refl) h
if_formed m T fs (Err f) made h = absurd (cc)

shaped_rule : (m : ℕ) (T : Rules) (fs : List (List ℕ)) → shaped 6 fs ≡ true → (enters_if m T (formed m (length T) fs)).refused ≡ None → Next1 T fs (enters_if m T (formed m (length T) fs))
shaped_rule m T fs s h =
    of_six (λ fs. (enters_if m T (formed m (length T) fs)).refused ≡ None → Next1 T fs (enters_if m T (formed m (length T) fs)))
    (λ a b d e f g. if_formed m T _ (formed m (length T) (a ∷ b ∷ d ∷ e ∷ f ∷ g ∷ [])) (λ x. formed_is m (length T) a b d e f g x)) fs (shaped_length 6 fs s) h

rule_is : (m : ℕ) (T : Rules) (fs : List (List ℕ)) → (read_rule m T fs).refused ≡ None → Next1 T fs (read_rule m T fs)
rule_is m T fs h = go (shaped 6 fs) refl h
  where
    go : (b : Bool) → shaped 6 fs ≡ b → (cond b (enters_if m T (formed m (length T) fs)) (refuses T (in_text 30 m 0))).refused ≡ None → Next1 T fs (cond b (enters_if m T (formed m (length T) fs)) (refuses T (in_text 30 m 0)))
    go true s h = shaped_rule m T fs s h
    go false s h = absurd (cc)

-- the lines that are read are those of the table

record More (T : Rules) (ls : List (List ℕ)) (o : Outcome Line) : Type 0 where
  new : Rules
  entries : o.entries ≡ T ++ new
  text : joined_lines ls ≡ text_of (rules_from (length T) new)

lines_are : (m : ℕ) (ls : List (List ℕ)) (T : Rules) → (read_lines read_rule m ls T).refused ≡ None → More T ls (read_lines read_rule m ls T)
lines_are m [] T h = record { new = []; entries = sym (append-nil T); text = refl }
lines_are m (l ∷ ls) T h =
    let o = read_rule m T (fields_of l) in
    let on : List Line → Outcome Line = λ more. read_lines read_rule (m + 1) ls more in
    let w = went o on h in
    let next = rule_is m T (fields_of l) w.here in
    let x = next.line in
    let then : goes_on o on ≡ on (T ++ x ∷ []) = w.then ∙ ap on next.entries in
    let rest = lines_are (m + 1) ls (T ++ x ∷ []) (ap (λ (y : Outcome Line). y.refused) (sym then) ∙ h) in
    record {
      new = x ∷ rest.new;
      entries = ap (λ (y : Outcome Line). y.entries) then ∙ rest.entries ∙ append_assoc T (x ∷ []) rest.new;
      text = line_is l (joined_lines ls)
          ∙ (λ i. line_text (next.fields i) ++ rest.text i)
          ∙ ap (λ k. line_text (rule_fields (length T) x) ++ text_of (rules_from k rest.new)) (length_push T x);
    }

-- the whole text

same_bytes_lem : (xs ys : List ℕ) → bytes_eq xs ys ≡ true → xs ≡ ys
same_bytes_lem xs ys h = (bytes_eq-Decides xs ys).0 h

named_is : (p : Parts) → (read_named p.names p.values []).refused ≡ None → joined_lines (p.names ∷ p.values) ≡ rules_text (read_named p.names p.values []).entries
named_is p h = go (bytes_eq p.names (codes "line kind from to left right")) refl h
  where
    go : (b : Bool) → bytes_eq p.names (codes "line kind from to left right") ≡ b → (cond b (read_lines read_rule 2 p.values []) (refuses [] (in_text 29 1 0))).refused ≡ None →
        joined_lines (p.names ∷ p.values) ≡ rules_text (cond b (read_lines read_rule 2 p.values []) (refuses [] (in_text 29 1 0))).entries
    go true same h =
        let lines = lines_are 2 p.values [] h in
        (λ i. same_bytes_lem p.names (codes "line kind from to left right") same i ++ (10 ∷ lines.text i)) ∙ ap rules_text (sym lines.entries)
    go false same h = absurd (cc)

parts_are : (text : List ℕ) (r : Result Parts Told) → parts_of text ≡ r → (read_parts read_named r []).refused ≡ None → text ≡ rules_text (read_parts read_named r []).entries
parts_are text (Ok p) is h = (split text p is).all ∙ named_is p h
parts_are text (Err t) is h = absurd (cc)

pub rules_only : RulesOnly
rules_only text h = parts_are text (parts_of text) refl h

pub rules_differ : RulesDiffer
rules_differ a b ha hb same = rules_only a ha ∙ ap rules_text same ∙ sym (rules_only b hb)
