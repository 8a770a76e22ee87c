use Rattle.std.proofs.Common.{◌≡◌, ◌+◌, drop}
use Rattle.std.specs.List.{prefix_len}
use Rattle.fields.specs.Bytes.{allowed}
use Rattle.fields.proofs.scan.wrong_line.Given as goal

abbrev pub invariant-loop-i : goal.invariant-loop-i
invariant-loop-i l = l.i + prefix_len allowed (drop l.i l.text) ≡ prefix_len allowed l.text
