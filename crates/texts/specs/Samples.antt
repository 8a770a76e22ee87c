-- Worked texts: what each leaves entered, and what its refusal tells.
use Rattle.std.specs.Prelude.{◌≡◌, ℕ, Bool, List, [], ◌∷◌, ◌++◌, map, length, Some, codes, nat_lt, refl}
use Rattle.mtl.specs.Rows.{row}
use Rattle.mtl.specs.declared.line.Line.{Line}
use Rattle.mtl.specs.declared.line.Line.TheVariants.{Mark, Since}
use Rattle.mtl.specs.declared.row.Row.{Row}
use Rattle.texts.specs.Faults.{in_text, in_table, in_log}
use Rattle.texts.specs.Logs.{read_log}
use Rattle.texts.specs.Outcomes.{Outcome, accepts, refuses}
use Rattle.texts.specs.Rules.{read_rules}

-- a text, and what its reading ends with
abbrev pub Sample : Type 0 → Type 0
Sample X = List ℕ × Outcome X

abbrev pub names : List ℕ
names = codes "line kind from to left right\n"

abbrev pub first : List Line
first = Mark 0 ∷ []

abbrev pub rule_samples : List (Sample Line)
rule_samples =
    (names ++ codes "0 m - - 0 -\n1 m - - 1 -\n2 s 0 5 0 1\n", accepts (Mark 0 ∷ Mark 1 ∷ Since (record { from = 0; to = Some 5 }) 0 1 ∷ [])) ∷
    (names, accepts []) ∷
    ([], refuses [] (in_text 28 1 0)) ∷
    (names ++ codes "0 m - - 0 -", refuses [] (in_text 28 2 0)) ∷
    (codes "line kind from to left\n", refuses [] (in_text 29 1 0)) ∷
    (names ++ codes "0 m - - 0\n", refuses [] (in_text 30 2 0)) ∷
    (names ++ codes "0 m -  - 0 -\n", refuses [] (in_text 30 2 0)) ∷
    (names ++ codes "0 m - - 0 -\n\n", refuses first (in_text 30 3 0)) ∷
    (names ++ codes "0 m - - 0 -\n2 m - - 1 -\n", refuses first (in_text 31 3 1)) ∷
    (names ++ codes "0 m - - 0 -\n1 m - - 01 -\n", refuses first (in_text 31 3 5)) ∷
    (names ++ codes "0 m - - 0 0\n", refuses [] (in_text 31 2 6)) ∷
    (names ++ codes "0 M - - 0 -\n", refuses [] (in_text 31 2 2)) ∷
    (names ++ codes "0 z ? ? ? ?\n", refuses [] (in_table 2 2)) ∷
    (names ++ codes "0 m - - 32 -\n", refuses [] (in_table 3 2)) ∷
    (names ++ codes "0 m - - 0 -\n1 n - - 1 -\n", refuses first (in_table 4 3)) ∷
    (names ++ codes "0 m - - 0 -\n1 p 5 4 0 -\n", refuses first (in_table 5 3)) ∷
    (names ++ codes "0 m - - 0 -\n1 u 0 - 0 0\n", refuses first (in_table 6 3)) ∷ []

pub rules : map (λ s. read_rules s.0 []) rule_samples ≡ map (λ s. s.1) rule_samples
rules = refl

-- room for fewer than 128 rows
abbrev pub few : List Row → Row → Bool
few R x = nat_lt (length R) 128

abbrev pub log_samples : List (Sample Row)
log_samples =
    (codes "time clamp heel\n0 1 0\n2 1 1\n4 1 0\n4 0 0\n9 1 0\n", accepts (row 0 1 ∷ row 2 3 ∷ row 4 1 ∷ row 4 0 ∷ row 9 1 ∷ [])) ∷
    (codes "time\n4294967295\n", accepts (row 4294967295 0 ∷ [])) ∷
    (codes "clamp time\n", refuses [] (in_text 29 1 0)) ∷
    (codes "time Clamp\n", refuses [] (in_text 29 1 0)) ∷
    (codes "time clampheel9\n", refuses [] (in_text 29 1 0)) ∷
    (codes "time clamp\n0\n", refuses [] (in_text 30 2 0)) ∷
    (codes "time clamp\n0 2\n", refuses [] (in_text 31 2 2)) ∷
    (codes "time clamp\n4294967296 1\n", refuses [] (in_text 31 2 1)) ∷
    (codes "time clamp\n4 1\n3 1\n", refuses (row 4 1 ∷ []) (in_log 7 3)) ∷ []

pub logs : map (λ s. read_log few s.0 []) log_samples ≡ map (λ s. s.1) log_samples
logs = refl
