-- What the reading of a text ends with, and the reading line by line.
use Rattle.std.specs.Prelude.{ℕ, ◌+◌, List, [], ◌∷◌, Some, None, Ok, Err, Option, Result}
use Rattle.fields.specs.Cuts.{fields_of}
use Rattle.texts.specs.Faults.{Told}
use Rattle.texts.specs.Lines.{Parts, parts_of}

-- what was entered, and the refusal if there is one
pub record Outcome (X : Type 0) : Type 0 where
  pub entries : List X
  pub refused : Option Told

abbrev pub refuses : {X : Type 0} → List X → Told → Outcome X
refuses es t = record { entries = es; refused = Some t }

abbrev pub accepts : {X : Type 0} → List X → Outcome X
accepts es = record { entries = es; refused = None }

-- a refusal ends the reading
abbrev pub goes_on : {X : Type 0} → Outcome X → (List X → Outcome X) → Outcome X
goes_on o f = elim o.refused [ None ↦ f o.entries | Some t ↦ o ]

-- lines from number n on, each read by its fields; those before a faulty one stay entered
abbrev pub read_lines : {X : Type 0} → (ℕ → List X → List (List ℕ) → Outcome X) → ℕ → List (List ℕ) → List X → Outcome X
read_lines read n [] es = accepts es
read_lines read n (l ∷ ls) es = goes_on (read n es (fields_of l)) (λ more. read_lines read (n + 1) ls more)

abbrev pub read_parts : {X : Type 0} → (List ℕ → List (List ℕ) → List X → Outcome X) → Result Parts Told → List X → Outcome X
read_parts read (Ok p) es = read p.names p.values es
read_parts read (Err t) es = refuses es t

-- a text is read by its names line and its lines of values
abbrev pub read_text : {X : Type 0} → (List ℕ → List (List ℕ) → List X → Outcome X) → List ℕ → List X → Outcome X
read_text read text es = read_parts read (parts_of text) es
