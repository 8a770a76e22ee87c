use Rattle.std.proofs.Common.{◌≡◌, [], None, rules}
use Rattle.logs.specs.Masks.{mask_room}
use Rattle.texts.specs.Faults.{told_by}
use Rattle.texts.specs.Logs.{read_log}
use Rattle.texts.specs.Rules.{read_rules}
use Rattle.listing.specs.Inputs.{rules_text, log_text}
use Rattle.listing.proofs.listing.read.Goals as goal

pub returns-in_err-map_err-2 : goal.returns-in_err-map_err-2
returns-in_err-map_err-2 c =
    let passed : (read_rules (rules_text c.args.input.now) []).refused ≡ None = search rules in
    let refused : (read_log mask_room (log_text c.args.input.now) []).refused ≡ told_by c.read_log.result = search rules in
    search rules
