-- The listing of an input.
use Rattle.std.specs.Prelude.{ℕ, List, [], Some, None, Option}
use Rattle.logs.specs.Masks.{mask_room}
use Rattle.texts.specs.declared.fault.Told.{Told}
use Rattle.texts.specs.Logs.{read_log}
use Rattle.texts.specs.Rules.{read_rules}
use Rattle.listing.specs.Faults.{fault_lines}
use Rattle.listing.specs.Inputs.{rules_text, log_text}
use Rattle.listing.specs.Rulings.{ruling_lines}
use Rattle.listing.specs.declared.fault.Source.{Source}
use Rattle.listing.specs.declared.fault.Source.TheVariants.{Rules, Log}

-- a text's fault, if it has one, or else the lines
abbrev pub unless_fault : Source → Option Told → List ℕ → List ℕ
unless_fault source (Some told) lines = fault_lines source told
unless_fault source None lines = lines

-- the rules are read first, into a new draft, and then the log, into a new mask log
abbrev pub listing_of : List ℕ → List ℕ
listing_of input =
    let rules = read_rules (rules_text input) [] in
    let log = read_log mask_room (log_text input) [] in
    unless_fault Rules rules.refused (unless_fault Log log.refused (ruling_lines rules.entries log.entries))
