-- The state that a case stands for, and its calls as steps.
use Rattle.std.specs.Prelude.{ℕ, Bool, List, [], None, Option, get_or, Result, slice_index_or}
use Rattle.mtl.specs.declared.row.Row.{Row}
use Rattle.mtl.specs.declared.ruling.Ruling.{Ruling}
use Rattle.mtl.specs.Questions.{numbered}
use Rattle.mtl.specs.Tables.{lines_of}
use Rattle.cases.specs.declared.book.Book.{Book}
use Rattle.cases.specs.declared.book.LineRecord.{LineRecord}
use Rattle.cases.specs.declared.case.Case.{Case}
use Rattle.cases.specs.declared.case.ShowFault.{ShowFault}
use Rattle.cases.specs.declared.case.ShowFault.TheVariants.{NoSuchLine, NoSuchRow}
use Rattle.cases.specs.Runs.{State, state, Event, Step}

abbrev pub no_record : LineRecord
no_record = record { entries = [] }

-- what the book shows: open beyond its lines and rows
abbrev pub shown_at : Book → ℕ → ℕ → Option Ruling
shown_at book n i = slice_index_or (get_or book.records n no_record).entries i None

-- from what the room rule and the rows of a log are
abbrev pub state_of : {L : Type 0} → (L → List Row → Row → Bool) → (L → List Row) → Case L → State
state_of room rows c = state (lines_of c.table) (room c.log) (rows c.log) (shown_at c.book)

-- a call on the case, as an event with its answer, takes it from c to d
abbrev pub Does : {L : Type 0} → (L → List Row → Row → Bool) → (L → List Row) → Case L → Event → Case L → Type 0
Does room rows c e d = Step (state_of room rows c) e (state_of room rows d)

-- the number of each refusal of Show
abbrev pub show_number : ShowFault → ℕ
show_number NoSuchLine = 21
show_number NoSuchRow = 22

abbrev pub show_told : {A : Type 0} → Result A ShowFault → Result A ℕ
show_told r = numbered show_number r
