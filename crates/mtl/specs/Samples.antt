-- The worked examples: a table, a log, a line and a row, what Settle makes of them, and what Check answers to bytes.
use Rattle.std.specs.Prelude.{◌≡◌, ℕ, List, [], ◌∷◌, length, Some, None, Option}
use Rattle.mtl.specs.Lists.{AllOf}
use Rattle.mtl.specs.Rows.{Row, row}
use Rattle.mtl.specs.Lines.{Rules, mark, since, until}
use Rattle.mtl.specs.Claims.{Ruling, held, broken, claim}
use Rattle.mtl.specs.Bytes.{bytes}
use Rattle.mtl.specs.Checking.{Verdict, accepted, refused, check_answer}
use Rattle.mtl.specs.Settling.{Settlement, settlement}

-- open, or a ruling with its certificate's size and bytes
pub data Outcome : Type 0 where
  undecided : Outcome
  ruled : Ruling → ℕ → List ℕ → Outcome

abbrev pub outcome : Option Settlement → Outcome
outcome None = undecided
outcome (Some s) = ruled s.ruling (length s.proof) (bytes s.proof)

pub record Sample : Type 0 where
  pub table : Rules
  pub rows : List Row
  pub line : ℕ
  pub at : ℕ
  pub settles : Outcome
  pub checked : List (List ℕ × Verdict)

abbrev pub sample : Rules → List Row → ℕ → ℕ → Outcome → List (List ℕ × Verdict) → Sample
sample T R n i o cs = record { table = T; rows = R; line = n; at = i; settles = o; checked = cs }

-- what the sample says is so; Check has a stack of 4,096
abbrev pub Holds : Sample → Type 0
Holds s =
    (outcome (settlement s.table s.rows s.line s.at) ≡ s.settles) ×
    AllOf (λ t. check_answer s.table s.rows t.0 4096 ≡ t.1) s.checked

-- clamp is mark 0 and heel is mark 1
abbrev clamp_since_heel : ℕ → Option ℕ → Rules
clamp_since_heel from to = mark 0 ∷ mark 1 ∷ since (record { from = from; to = to }) 0 1 ∷ []

abbrev clamp_until_heel : ℕ → Option ℕ → Rules
clamp_until_heel from to = mark 0 ∷ mark 1 ∷ until (record { from = from; to = to }) 0 1 ∷ []

abbrev five_rows : List Row
five_rows = row 0 1 ∷ row 2 3 ∷ row 4 1 ∷ row 4 0 ∷ row 9 1 ∷ []

-- the five rows of one log
abbrev fifth : ℕ → Outcome → List (List ℕ × Verdict) → Sample
fifth i o cs = sample (clamp_since_heel 0 (Some 5)) five_rows 2 i o cs

abbrev third_row : List ℕ
third_row = 0 ∷ 2 ∷ 0 ∷ 3 ∷ 0 ∷ 0 ∷ 1 ∷ 2 ∷ 0 ∷ 3 ∷ 0 ∷ 0 ∷ 2 ∷ 21 ∷ 0 ∷ 3 ∷ 0 ∷ 2 ∷ []

abbrev pub samples : List Sample
samples =
    fifth 0 (ruled broken 2 (1 ∷ 2 ∷ 0 ∷ 0 ∷ 0 ∷ 0 ∷ 2 ∷ 22 ∷ 0 ∷ 0 ∷ 0 ∷ 1 ∷ [])) [] ∷
    fifth 1 (ruled held 2 (1 ∷ 1 ∷ 0 ∷ 1 ∷ 0 ∷ 0 ∷ 2 ∷ 20 ∷ 0 ∷ 1 ∷ 0 ∷ 1 ∷ [])) [] ∷
    fifth 2 (ruled held 3 (1 ∷ 1 ∷ 0 ∷ 1 ∷ 0 ∷ 0 ∷ 0 ∷ 1 ∷ 0 ∷ 2 ∷ 0 ∷ 0 ∷ 2 ∷ 20 ∷ 0 ∷ 2 ∷ 0 ∷ 2 ∷ [])) [] ∷
    fifth 3 (ruled broken 3 third_row) ((third_row, accepted (claim 2 3 broken)) ∷ []) ∷
    fifth 4 (ruled broken 4 (0 ∷ 2 ∷ 0 ∷ 3 ∷ 0 ∷ 0 ∷ 1 ∷ 2 ∷ 0 ∷ 3 ∷ 0 ∷ 0 ∷ 1 ∷ 2 ∷ 0 ∷ 4 ∷ 0 ∷ 0 ∷ 2 ∷ 21 ∷ 0 ∷ 4 ∷ 0 ∷ 3 ∷ [])) [] ∷
    -- no row lies inside the window: broken by rule 22 in one node
    sample (clamp_since_heel 3 (Some 5)) (row 0 1 ∷ row 10 1 ∷ []) 2 1 (ruled broken 1 (2 ∷ 22 ∷ 0 ∷ 1 ∷ 0 ∷ 0 ∷ [])) [] ∷
    -- the log begins inside the window's start: rule 23, and rule 22 is refused with 19
    sample (clamp_since_heel 3 None) (row 0 1 ∷ row 2 1 ∷ []) 2 1 (ruled broken 1 (2 ∷ 23 ∷ 0 ∷ 1 ∷ 0 ∷ 0 ∷ []))
    ((2 ∷ 22 ∷ 0 ∷ 1 ∷ 0 ∷ 0 ∷ [], refused 19 0) ∷ []) ∷
    -- a row at exactly the window's end leaves an until open; a later one closes it; so does a left operand that is broken at the end
    sample (clamp_until_heel 0 (Some 5)) (row 0 1 ∷ row 5 1 ∷ []) 2 0 undecided [] ∷
    sample (clamp_until_heel 0 (Some 5)) (row 0 1 ∷ row 5 1 ∷ row 6 1 ∷ []) 2 0
    (ruled broken 3 (1 ∷ 2 ∷ 0 ∷ 0 ∷ 0 ∷ 0 ∷ 1 ∷ 2 ∷ 0 ∷ 1 ∷ 0 ∷ 0 ∷ 2 ∷ 26 ∷ 0 ∷ 0 ∷ 0 ∷ 2 ∷ [])) [] ∷
    sample (clamp_until_heel 0 (Some 5)) (row 0 1 ∷ row 5 0 ∷ []) 2 0
    (ruled broken 4 (0 ∷ 2 ∷ 0 ∷ 1 ∷ 0 ∷ 0 ∷ 1 ∷ 2 ∷ 0 ∷ 0 ∷ 0 ∷ 0 ∷ 1 ∷ 2 ∷ 0 ∷ 1 ∷ 0 ∷ 0 ∷ 2 ∷ 25 ∷ 0 ∷ 0 ∷ 0 ∷ 3 ∷ [])) [] ∷ []

abbrev pub AllSamples : Type 0
AllSamples = AllOf Holds samples
