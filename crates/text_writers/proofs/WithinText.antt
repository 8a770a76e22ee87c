-- The refusal of a text stands within the text.
use Rattle.std.proofs.Common.{◌≡◌, ℕ, suc, ◌+◌, ◌-◌, ◌<◌, ◌≤◌, Bool, true, false, cond, leb, ◌⊎◌, List, [], ◌∷◌, length, get_or, Some, None, Ok, Err, codes, Option, Result, sym, refl, ap, subst, inl, inr, arith}
use Rattle.std.specs.Str.{bytes_eq}
use Rattle.fields.specs.Bytes.{wrong_line}
use Rattle.fields.specs.Cuts.{lines_of, fields_of}
use Rattle.texts.specs.Faults.{in_text}
use Rattle.texts.specs.Lines.{Parts, parts_by, parts_of}
use Rattle.texts.specs.Logs.{read_row, read_rows, read_timed}
use Rattle.fields.specs.Names.{names_in}
use Rattle.texts.specs.Outcomes.{Outcome, refuses, goes_on, read_lines, read_parts}
use Rattle.texts.specs.Rules.{read_rule, read_named}
use Rattle.texts.specs.declared.fault.Told.{Told}
use Rattle.text_writers.specs.Places.{lines_in, Within, RulesWithin, LogsWithin}
use Rattle.text_writers.proofs.Faulty.{At, rule_at, row_at}
use Rattle.text_writers.proofs.Joined.{split}
use Rattle.text_writers.proofs.LineCounts.{some_line, wrong_within}
use Rattle.text_writers.proofs.LogsOnly.{names_count}
use Rattle.text_writers.proofs.Variants.{some_same, err_same}

-- the line i of ls, the first of which has the number n, is refused
record Found (n : ℕ) (ls : List (List ℕ)) (t : Told) : Type 0 where
  i : ℕ
  inside : i < length ls
  at : At (n + i) (length (fields_of (get_or ls i []))) t

stops : {X : Type 0} (es : List X) (r : Option Told) (f : List X → Outcome X) (t : Told) → (goes_on (record { entries = es; refused = r }) f).refused ≡ Some t → (r ≡ Some t) ⊎ ((f es).refused ≡ Some t)
stops es None f t h = inr h
stops es (Some u) f t h = inl h

later : (n : ℕ) (l : List ℕ) (ls : List (List ℕ)) (t : Told) → Found (n + 1) ls t → Found n (l ∷ ls) t
later n l ls t found =
    let at : n + 1 + found.i ≡ n + suc found.i = omega arith in
    record { i = suc found.i; inside = omega (arith, found.inside); at = subst (λ k. At k (length (fields_of (get_or ls found.i []))) t) at found.at }

first : (n : ℕ) (l : List ℕ) (ls : List (List ℕ)) (t : Told) → At n (length (fields_of l)) t → Found n (l ∷ ls) t
first n l ls t at = let same : n ≡ n + 0 = omega arith in record { i = 0; inside = omega arith; at = subst (λ k. At k (length (fields_of l)) t) same at }

abbrev Tells : {X : Type 0} → (ℕ → List X → List (List ℕ) → Outcome X) → Type 0
Tells {X} read = (n : ℕ) (es : List X) (fs : List (List ℕ)) (t : Told) → (read n es fs).refused ≡ Some t → At n (length fs) t

find : {X : Type 0} (read : ℕ → List X → List (List ℕ) → Outcome X) → Tells read → (n : ℕ) (ls : List (List ℕ)) (es : List X) (t : Told) → (read_lines read n ls es).refused ≡ Some t → Found n ls t
find read tells n [] es t h = absurd (cc)
find read tells n (l ∷ ls) es t h =
    let o = read n es (fields_of l) in
    elim (stops o.entries o.refused (λ more. read_lines read (n + 1) ls more) t h) [
      | inl here ↦ first n l ls t (tells n es (fields_of l) t here)
      | inr on ↦ later n l ls t (find read tells (n + 1) ls o.entries t on)
    ]

-- a line of values
value_within : (text names : List ℕ) (ls : List (List ℕ)) (t : Told) → lines_of text ≡ names ∷ ls → Found 2 ls t → Within text t
value_within text names ls t lines found =
    let i = found.i in
    let line : t.line ≡ 2 + i = found.at.line in
    let many : length (lines_of text) ≡ suc (length ls) = ap length lines in
    let place : t.line - 1 ≡ suc i = omega arith in
    let same : get_or (lines_of text) (t.line - 1) [] ≡ get_or ls i [] = λ j. get_or (lines j) (place j) [] in
    record {
      line = omega (arith, line, many, found.inside);
      none = λ zero. absurd (omega arith);
      form = subst (λ l. t.number ≡ 31 → (1 ≤ t.field) × (t.field ≤ length (fields_of l))) (sym same) found.at.form;
      other = found.at.other;
    }

-- a question of the whole text
whole_within : (text : List ℕ) (number line : ℕ) (t : Told) → (number ≡ 31 → ⊥) → line ≤ lines_in text → (line ≡ 0 → number ≡ 27) → in_text number line 0 ≡ t → Within text t
whole_within text number line t off high low same = subst (Within text) same (record { line = high; none = low; form = λ is. absurd (off is); other = λ _. refl })

names_within : (text : List ℕ) (t : Told) → in_text 29 1 0 ≡ t → Within text t
names_within text t same = whole_within text 29 1 t (λ e. omega arith) (some_line text) (λ e. absurd (omega arith)) same

parts_by_lem : (text : List ℕ) (o : Option ℕ) (ls : List (List ℕ)) (t : Told) → wrong_line text ≡ o → parts_by o ls ≡ Err t → Within text t
parts_by_lem text (Some n) ls t wrong h =
    let place = wrong_within text n wrong in
    whole_within text 28 n t (λ e. omega arith) place.1 (λ e. absurd (omega (arith, place.0))) (err_same h)
parts_by_lem text None [] t wrong h = names_within text t (err_same h)
parts_by_lem text None (l ∷ ls) t wrong h = absurd (cc)

parts_within : (text : List ℕ) (t : Told) → parts_of text ≡ Err t → Within text t
parts_within text t h = go (leb (length text) 16384) h
  where
    go : (b : Bool) → cond b (parts_by (wrong_line text) (lines_of text)) (Err (in_text 27 0 0)) ≡ Err t → Within text t
    go true h = parts_by_lem text (wrong_line text) (lines_of text) t refl h
    go false h = whole_within text 27 0 t (λ e. omega arith) (omega arith) (λ _. refl) (err_same h)

-- whatever reads the lines
text_within : {X : Type 0} (read : List ℕ → List (List ℕ) → List X → Outcome X) (text : List ℕ) (es : List X) (t : Told) →
    ((p : Parts) → lines_of text ≡ p.names ∷ p.values → (read p.names p.values es).refused ≡ Some t → Within text t) →
    (r : Result Parts Told) → parts_of text ≡ r → (read_parts read r es).refused ≡ Some t → Within text t
text_within read text es t on (Ok p) is h = on p (split text p is).lines h
text_within read text es t on (Err u) is h = subst (Within text) (some_same h) (parts_within text u is)

pub rules_within : RulesWithin
rules_within text T t h = text_within read_named text T t (λ p lines. go p lines (bytes_eq p.names (codes "line kind from to left right"))) (parts_of text) refl h
  where
    go : (p : Parts) → lines_of text ≡ p.names ∷ p.values → (b : Bool) → (cond b (read_lines read_rule 2 p.values T) (refuses T (in_text 29 1 0))).refused ≡ Some t → Within text t
    go p lines true h = value_within text p.names p.values t lines (find read_rule rule_at 2 p.values T t h)
    go p lines false h = names_within text t (some_same h)

some_names : (fs : List (List ℕ)) (count : ℕ) → names_in fs ≡ Some count → 1 ≤ count
some_names [] count is = absurd (cc)
some_names (w ∷ ws) count is = omega (arith, (names_count (w ∷ ws) count is).0)

pub logs_within : LogsWithin
logs_within room text R t h = text_within (read_timed room) text R t (λ p lines. go p lines (names_in (fields_of p.names)) refl) (parts_of text) refl h
  where
    go : (p : Parts) → lines_of text ≡ p.names ∷ p.values → (o : Option ℕ) → names_in (fields_of p.names) ≡ o → (read_rows room o p.values R).refused ≡ Some t → Within text t
    go p lines None is h = names_within text t (some_same h)
    go p lines (Some count) is h =
        value_within text p.names p.values t lines (find (read_row room count) (row_at room count (some_names (fields_of p.names) count is)) 2 p.values R t h)
