-- What Check answers: node by node over the waiting subtrees, the first question answered no, or the claim.
use Rattle.std.specs.Prelude.{ℕ, suc, ◌-◌, ◌/◌, ◌%◌, Bool, true, false, cond, ◌&&◌, List, [], ◌∷◌, ◌++◌, length, take, drop, Some, None, Option, ◌==◌, nat_le, nat_lt}
use Rattle.mtl.specs.Questions.{Question, first_no}
use Rattle.mtl.specs.Rows.{Row}
use Rattle.mtl.specs.Lines.{Rules, line_at}
use Rattle.mtl.specs.Claims.{Claim, held, Node, first_row, same_ruling}
use Rattle.mtl.specs.Forms.{Shape, exactly, first_then, any_of, Form, fixed, forms}
use Rattle.mtl.specs.Bytes.{nodes}

unfoldable pub form_at : List Form → ℕ → Option Form
form_at [] n = None
form_at (f ∷ fs) n = cond (f.number == n) (Some f) (form_at fs n)

-- the same line and ruling
abbrev pub alike : Claim → Claim → Bool
alike a b = a.line == b.line && same_ruling a.ruling b.ruling

unfoldable pub all_alike : Claim → List Claim → Bool
all_alike a [] = true
all_alike a (b ∷ bs) = alike a b && all_alike a bs

unfoldable pub each_alike : List Claim → List Claim → Bool
each_alike [] [] = true
each_alike [] (b ∷ bs) = false
each_alike (a ∷ xs) [] = false
each_alike (a ∷ xs) (b ∷ bs) = alike a b && each_alike xs bs

unfoldable pub same_rows : List Claim → List Claim → Bool
same_rows [] [] = true
same_rows [] (b ∷ bs) = false
same_rows (a ∷ xs) [] = false
same_rows (a ∷ xs) (b ∷ bs) = (a.row == b.row && alike a b) && same_rows xs bs

abbrev pub count_fits : Shape → ℕ → Bool
count_fits (exactly ks) n = length ks == n
count_fits (first_then a b) n = nat_le 1 n
count_fits (any_of a) n = true

abbrev pub lines_fit : Shape → List Claim → Bool
lines_fit (exactly ks) cs = each_alike ks cs
lines_fit (first_then a b) [] = false
lines_fit (first_then a b) (c ∷ cs) = alike a c && all_alike b cs
lines_fit (any_of a) cs = all_alike a cs

-- the waiting subtrees after a node, or the number of the question that it fails
pub data Went : Type 0 where
  stops : ℕ → Went
  goes : List Claim → Went

-- the form that a rule's number names, if it is one of the line's kind
abbrev pub known : Option Form → Bool
known None = false
known (Some f) = true

abbrev pub form_or : Option Form → Form
form_or None = fixed 0 held [] false
form_or (Some f) = f

-- the questions at a node d, with s waiting: kids are the children that it takes, o is what its rule names
abbrev pub node_questions : Rules → List Row → List Claim → Node → List Claim → Option Form → List Question
node_questions T R s d kids o =
    (14, nat_lt d.line (length T)) ∷
    (15, known o) ∷
    (16, nat_lt d.row (length R)) ∷
    (17, count_fits (form_or o).shape d.count && nat_le d.count (length s)) ∷
    (18, lines_fit (form_or o).shape kids) ∷
    (19, same_rows ((form_or o).kids (first_row kids)) kids && (form_or o).meets (first_row kids)) ∷ []

-- the same, with the children and the form looked up
abbrev pub questions_at : Rules → List Row → List Claim → Node → List Question
questions_at T R s d = node_questions T R s d (drop (length s - d.count) s) (form_at (forms R d.row (line_at T d.line)) d.rule)

abbrev pub went : Option ℕ → List Claim → Went
went None s = goes s
went (Some q) s = stops q

abbrev pub node_by : Rules → List Row → List Claim → Node → Option Form → Went
node_by T R s d o =
    went (first_no (node_questions T R s d (drop (length s - d.count) s) o))
    (take (length s - d.count) s ++ (record { line = d.line; row = d.row; ruling = (form_or o).ruling } ∷ []))

unfoldable pub node_step : Rules → List Row → List Claim → Node → Went
node_step T R s d = node_by T R s d (form_at (forms R d.row (line_at T d.line)) d.rule)

pub data Verdict : Type 0 where
  accepted : Claim → Verdict
  refused : ℕ → ℕ → Verdict

abbrev pub ended : List Claim → ℕ → Verdict
ended [] k = refused 20 k
ended (c ∷ []) k = accepted c
ended (c ∷ d ∷ cs) k = refused 20 k

unfoldable pub checks : Rules → List Row → List Claim → List Node → ℕ → Verdict
checks T R s [] k = ended s k
checks T R s (d ∷ ds) k = elim (node_step T R s d) [ stops q ↦ refused q k | goes t ↦ checks T R t ds (suc k) ]

-- Check: before any node
abbrev pub check_questions : ℕ → ℕ → List Question
check_questions size stack =
    (11, nat_lt 0 size && size % 6 == 0) ∷
    (12, nat_le size 24576) ∷
    (13, nat_le (size / 6) stack) ∷ []

abbrev pub unless : Option ℕ → Verdict → Verdict
unless None v = v
unless (Some q) v = refused q 0

-- Check: the certificate's bytes, and the length of the stack
unfoldable pub check_answer : Rules → List Row → List ℕ → ℕ → Verdict
check_answer T R cert stack = unless (first_no (check_questions (length cert) stack)) (checks T R [] (nodes cert) 0)
