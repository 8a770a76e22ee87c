-- The laws of the texts: what is written is read back.
use Rattle.std.specs.Prelude.{◌≡◌, ℕ, ◌-◌, ◌^◌, ◌<◌, ◌≤◌, Bool, true, List, [], ◌∷◌, ◌++◌, map, length, take, Some, None, Option, nat_lt, slice_index_or}
use Rattle.mtl.specs.Lines.{Rules, line_at, WellFormed}
use Rattle.mtl.specs.Rows.{row_at, NeverFalls, AllFit}
use Rattle.mtl.specs.declared.line.Line.{Line}
use Rattle.mtl.specs.declared.line.Line.TheVariants.{Mark, Not, And, Or, Previous, Next, Since, Until}
use Rattle.mtl.specs.declared.line.Window.{Window}
use Rattle.mtl.specs.declared.row.Row.{Row}
use Rattle.fields.specs.Cuts.{lines_of, fields_of}
use Rattle.texts.specs.Logs.{read_log}
use Rattle.texts.specs.Outcomes.{accepts}
use Rattle.texts.specs.Rules.{read_rules}
use Rattle.text_writers.specs.LogTexts.{row_fields, log_text}
use Rattle.text_writers.specs.RuleTexts.{rules_text}
use Rattle.text_writers.specs.Writing.{text_of}

-- the ends of a window are numbers of 32 bits, as in every table that a program holds
abbrev pub EndFits : Option ℕ → Type 0
EndFits None = Unit {0}
EndFits (Some to) = to < 2 ^ 32

abbrev pub WindowFits : Window → Type 0
WindowFits w = (w.from < 2 ^ 32) × EndFits w.to

abbrev pub LineFits : Line → Type 0
LineFits (Mark m) = Unit {0}
LineFits (Not l) = Unit {0}
LineFits (And l r) = Unit {0}
LineFits (Or l r) = Unit {0}
LineFits (Previous w l) = WindowFits w
LineFits (Next w l) = WindowFits w
LineFits (Since w l r) = WindowFits w
LineFits (Until w l r) = WindowFits w

abbrev pub WindowsFit : Rules → Type 0
WindowsFit T = (n : ℕ) → n < length T → LineFits (line_at T n)

-- a table's text is read, with no fault, as the table
abbrev pub RulesBack : Type 0
RulesBack = (T : Rules) → WellFormed T → WindowsFit T → length T ≤ 32 → read_rules (rules_text T) [] ≡ accepts T

-- the room rule says yes to each of the rows in turn
abbrev pub RoomFor : (List Row → Row → Bool) → List Row → Type 0
RoomFor room R = (i : ℕ) → i < length R → room (take i R) (row_at R i) ≡ true

-- no mark from this number on stands in any row
abbrev pub MarksBelow : ℕ → List Row → Type 0
MarksBelow marks R = (i : ℕ) → i < length R → (row_at R i).marks < 2 ^ marks

-- a log's text is read, with no fault, as the log's rows
abbrev pub LogsBack : Type 0
LogsBack =
    (room : List Row → Row → Bool) (marks : ℕ) (R : List Row) → marks ≤ 32 → length R ≤ 128 → NeverFalls R → AllFit R → MarksBelow marks R → RoomFor room R →
    read_log room (log_text marks R) [] ≡ accepts R

-- the same for a log whose room rule is fewer than 128 rows, as the mask log's is
abbrev pub MaskLogsBack : Type 0
MaskLogsBack =
    (marks : ℕ) (R : List Row) → marks ≤ 32 → length R ≤ 128 → NeverFalls R → AllFit R → MarksBelow marks R →
    read_log (λ S _. nat_lt (length S) 128) (log_text marks R) [] ≡ accepts R

-- a rules text that is read without fault is the text of the table that it gives
abbrev pub RulesOnly : Type 0
RulesOnly = (text : List ℕ) → (read_rules text []).refused ≡ None → text ≡ rules_text (read_rules text []).entries

-- no two rules texts that are read without fault give the same table
abbrev pub RulesDiffer : Type 0
RulesDiffer = (a b : List ℕ) → (read_rules a []).refused ≡ None → (read_rules b []).refused ≡ None → (read_rules a []).entries ≡ (read_rules b []).entries → a ≡ b

-- the names line of a text, and how many marks it names
abbrev pub names_line : List ℕ → List ℕ
names_line text = slice_index_or (lines_of text) 0 []

abbrev pub marks_named : List ℕ → ℕ
marks_named text = length (fields_of (names_line text)) - 1

-- a log text that is read without fault is its names line and the lines of the rows that it gives
abbrev pub LogsOnly : Type 0
LogsOnly =
    (room : List Row → Row → Bool) (text : List ℕ) → (read_log room text []).refused ≡ None →
    text ≡ names_line text ++ (10 ∷ text_of (map (row_fields (marks_named text)) (read_log room text []).entries))

-- no two log texts with one names line that are read without fault give the same rows, whatever the room rules
abbrev pub LogsDiffer : Type 0
LogsDiffer =
    (r s : List Row → Row → Bool) (a b : List ℕ) → (read_log r a []).refused ≡ None → (read_log s b []).refused ≡ None → names_line a ≡ names_line b →
    (read_log r a []).entries ≡ (read_log s b []).entries → a ≡ b
