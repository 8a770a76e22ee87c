-- How a fault is printed.
use Rattle.std.specs.Prelude.{ℕ, List, ◌++◌, codes, decimal}
use Rattle.texts.specs.declared.fault.Told.{Told}
use Rattle.listing.specs.declared.fault.Source.{Source}
use Rattle.listing.specs.declared.fault.Source.TheVariants.{Rules, Log}

abbrev pub source_name : Source → List ℕ
source_name Rules = codes "rules"
source_name Log = codes "log"

-- a line of names, then the fault's number, its text, its line and its field
abbrev pub fault_lines : Source → Told → List ℕ
fault_lines source told =
    codes "fault text line field\n" ++
    (decimal told.number ++ (codes " " ++ (source_name source ++ (codes " " ++ (decimal told.line ++ (codes " " ++ (decimal told.field ++ codes "\n")))))))
