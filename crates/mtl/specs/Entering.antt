-- What it takes to enter a line, and the lines afterwards.
use Rattle.std.specs.Prelude.{◌≡◌, ℕ, true, false, cond, not, ◌&&◌, ◌||◌, List, [], ◌∷◌, ◌++◌, length, Some, None, Ok, Err, Option, Result, nat_lt}
use Rattle.mtl.specs.Questions.{Question, first_no, answer, numbered}
use Rattle.mtl.specs.Kinds.{kind_at, is_mark, has_right, has_window, is_until}
use Rattle.mtl.specs.Lines.{Rules, Window, Line, mark, neg, and, or, previous, next, since, until, ordered, present, fits}
use Rattle.mtl.specs.declared.line.Fields.{Fields}
use Rattle.mtl.specs.declared.line.Kind.{Kind}
use Rattle.mtl.specs.declared.line.Kind.TheVariants.{Mark, Not, And, Or, Previous, Next, Since, Until}
use Rattle.mtl.specs.declared.line.LineFault.{LineFault}
use Rattle.mtl.specs.declared.line.LineFault.TheVariants.{TableFull, UnknownKind, NoSuchMark, NotEarlier, WindowReversed, UntilEndless}

-- the number of each refusal
abbrev pub line_number : LineFault → ℕ
line_number TableFull = 1
line_number UnknownKind = 2
line_number NoSuchMark = 3
line_number NotEarlier = 4
line_number WindowReversed = 5
line_number UntilEndless = 6

abbrev pub told : {A : Type 0} → Result A LineFault → Result A ℕ
told r = numbered line_number r

-- the questions that depend on the kind, for line n
abbrev pub kind_questions : ℕ → Kind → Fields → List Question
kind_questions n k f =
    (3, not (is_mark k) || nat_lt f.left 32) ∷
    (4, (is_mark k || nat_lt f.left n) && (not (has_right k) || nat_lt f.right n)) ∷
    (5, not (has_window k) || ordered f.from f.to) ∷
    (6, not (is_until k) || present f.to) ∷ []

abbrev pub line_questions : ℕ → Option Kind → Fields → List Question
line_questions n None f = (2, false) ∷ []
line_questions n (Some k) f = (2, true) ∷ kind_questions n k f

abbrev pub enter_questions : Rules → ℕ → Fields → List Question
enter_questions T letter f = (1, nat_lt (length T) 32) ∷ line_questions (length T) (kind_at letter) f

-- the answer to a line that is entered
abbrev pub enter_answer : Rules → ℕ → Fields → Result (Unit {0}) ℕ
enter_answer T letter f = answer (first_no (enter_questions T letter f)) tt

abbrev pub window_of : Fields → Window
window_of f = record { from = f.from; to = f.to }

-- the line of a kind; the fields that a kind does not use are not kept
abbrev pub line_of : Kind → Fields → Line
line_of Mark f = mark f.left
line_of Not f = neg f.left
line_of And f = and f.left f.right
line_of Or f = or f.left f.right
line_of Previous f = previous (window_of f) f.left
line_of Next f = next (window_of f) f.left
line_of Since f = since (window_of f) f.left f.right
line_of Until f = until (window_of f) f.left f.right

abbrev pub line_if : Option Kind → Fields → List Line
line_if None f = []
line_if (Some k) f = line_of k f ∷ []

abbrev pub after_answer : Result (Unit {0}) ℕ → Rules → ℕ → Fields → Rules
after_answer (Ok u) T letter f = T ++ line_if (kind_at letter) f
after_answer (Err q) T letter f = T

-- the lines afterwards: one more at the end where no question is answered no
abbrev pub lines_after : Rules → ℕ → Fields → Rules
lines_after T letter f = after_answer (enter_answer T letter f) T letter f

-- the parts of entering

abbrev pub operand_in : ℕ → ℕ → Result ℕ LineFault
operand_in number count = cond (nat_lt number count) (Ok number) (Err NotEarlier)

abbrev pub operands_in : Fields → ℕ → Result (ℕ × ℕ) LineFault
operands_in f count = cond (nat_lt f.left count && nat_lt f.right count) (Ok (f.left, f.right)) (Err NotEarlier)

abbrev pub mark_in : ℕ → Result Line LineFault
mark_in number = cond (nat_lt number 32) (Ok (mark number)) (Err NoSuchMark)

abbrev pub window_in : Fields → Result Window LineFault
window_in f = cond (ordered f.from f.to) (Ok (window_of f)) (Err WindowReversed)

abbrev pub ended_window_in : Fields → Result Window LineFault
ended_window_in f = cond (ordered f.from f.to) (cond (present f.to) (Ok (window_of f)) (Err UntilEndless)) (Err WindowReversed)

-- the line of the kind, which may stand as line n; or the first no
abbrev pub Makes : Result Line LineFault → ℕ → Kind → Fields → Type 0
Makes (Ok l) n k f = (first_no (kind_questions n k f) ≡ None) × (l ≡ line_of k f) × (fits n l ≡ true)
Makes (Err e) n k f = first_no (kind_questions n k f) ≡ Some (line_number e)
