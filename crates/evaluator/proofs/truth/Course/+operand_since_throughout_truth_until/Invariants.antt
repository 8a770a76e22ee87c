use Rattle.std.proofs.Common.{◌+◌, ◌*◌}
use Rattle.evaluator.proofs.truth.Course.+operand_since_throughout_truth_until.Given as goal

abbrev pub decreases-truth : goal.decreases-truth
decreases-truth l = 4 * l.line + 3

abbrev pub decreases-since : goal.decreases-since
decreases-since l = 4 * l.line + 2

abbrev pub decreases-until : goal.decreases-until
decreases-until l = 4 * l.line + 2

abbrev pub decreases-throughout : goal.decreases-throughout
decreases-throughout l = 4 * l.line + 1

abbrev pub decreases-operand : goal.decreases-operand
decreases-operand l = 4 * l.line
