-- The text of a rule table.
use Rattle.std.specs.Prelude.{ℕ, ◌+◌, List, [], ◌∷◌, Some, None, codes, decimal, Option}
use Rattle.mtl.specs.declared.line.Line.{Line}
use Rattle.mtl.specs.declared.line.Line.TheVariants.{Mark, Not, And, Or, Previous, Next, Since, Until}
use Rattle.text_writers.specs.Writing.{text_of}

-- a field that is not used
abbrev pub unused : List ℕ
unused = codes "-"

-- the end of a window, or none
abbrev pub end_field : Option ℕ → List ℕ
end_field None = unused
end_field (Some to) = decimal to

-- the six fields of a line: number, letter, from, to, left, right
abbrev pub rule_fields : ℕ → Line → List (List ℕ)
rule_fields n (Mark m) = decimal n ∷ codes "m" ∷ unused ∷ unused ∷ decimal m ∷ unused ∷ []
rule_fields n (Not l) = decimal n ∷ codes "n" ∷ unused ∷ unused ∷ decimal l ∷ unused ∷ []
rule_fields n (And l r) = decimal n ∷ codes "a" ∷ unused ∷ unused ∷ decimal l ∷ decimal r ∷ []
rule_fields n (Or l r) = decimal n ∷ codes "o" ∷ unused ∷ unused ∷ decimal l ∷ decimal r ∷ []
rule_fields n (Previous w l) = decimal n ∷ codes "p" ∷ decimal w.from ∷ end_field w.to ∷ decimal l ∷ unused ∷ []
rule_fields n (Next w l) = decimal n ∷ codes "x" ∷ decimal w.from ∷ end_field w.to ∷ decimal l ∷ unused ∷ []
rule_fields n (Since w l r) = decimal n ∷ codes "s" ∷ decimal w.from ∷ end_field w.to ∷ decimal l ∷ decimal r ∷ []
rule_fields n (Until w l r) = decimal n ∷ codes "u" ∷ decimal w.from ∷ end_field w.to ∷ decimal l ∷ decimal r ∷ []

-- the names of the six fields
abbrev pub field_names : List (List ℕ)
field_names = codes "line" ∷ codes "kind" ∷ codes "from" ∷ codes "to" ∷ codes "left" ∷ codes "right" ∷ []

-- the fields of each line, the first of which has the number n
abbrev pub rules_from : ℕ → List Line → List (List (List ℕ))
rules_from n [] = []
rules_from n (l ∷ ls) = rule_fields n l ∷ rules_from (n + 1) ls

-- the text of a table: the names, and a line for each of its lines
abbrev pub rules_text : List Line → List ℕ
rules_text T = text_of (field_names ∷ rules_from 0 T)
