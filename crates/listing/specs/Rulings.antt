-- How the rulings of a table's last line are printed, row by row.
use Rattle.std.specs.Prelude.{ℕ, zero, suc, ◌-◌, cond, List, [], ◌++◌, length, Ok, Err, codes, decimal, Result, ◌==◌}
use Rattle.mtl.specs.declared.row.Row.{Row}
use Rattle.mtl.specs.declared.ruling.Settled.{Settled}
use Rattle.mtl.specs.Claims.{ruling_word}
use Rattle.mtl.specs.Lines.{Rules}
use Rattle.mtl.specs.Settling.{Lengths, lengths, settle_answer}

-- refusal 24 is open; the other refusal that a row of the log can get is 25, long
abbrev pub answer_word : Result Settled ℕ → List ℕ
answer_word (Ok s) = ruling_word s.ruling
answer_word (Err q) = cond (q == 24) (codes "open") (codes "long")

abbrev pub nodes_word : Result Settled ℕ → List ℕ
nodes_word (Ok s) = decimal s.size
nodes_word (Err q) = codes "-"

-- the row's number, its ruling and the nodes of its shortest certificate
abbrev pub row_line : ℕ → Result Settled ℕ → List ℕ
row_line i a = decimal i ++ (codes " " ++ (answer_word a ++ (codes " " ++ (nodes_word a ++ codes "\n"))))

-- a line for each of the first k rows
abbrev pub row_lines : (ℕ → Result Settled ℕ) → ℕ → List ℕ
row_lines answers zero = []
row_lines answers (suc k) = row_lines answers k ++ row_line k (answers k)

abbrev pub names_line : List ℕ
names_line = codes "row ruling nodes\n"

-- line n at every row, settled with buffers of these lengths
abbrev pub settled_lines : Rules → List Row → ℕ → Lengths → List ℕ
settled_lines T R n ls = names_line ++ row_lines (λ i. settle_answer T R n i ls) (length R)

-- the work buffers have a cell for every line, row and ruling, and the output has room for 4096 nodes
abbrev pub roomy : Lengths
roomy = lengths 8192 8192 24576

-- the last line at every row; the names line alone where there is no line
abbrev pub ruling_lines : Rules → List Row → List ℕ
ruling_lines T R = cond (length T == 0) names_line (settled_lines T R (length T - 1) roomy)
