-- The worked examples hold, by computation.
use Rattle.std.proofs.Common.{refl}
use Rattle.mtl.specs.Ranges.{run, range, keep}
use Rattle.mtl.specs.Forms.{guard, for_each, forms, ways_in}
use Rattle.mtl.specs.Checking.{form_at, each_alike, all_alike, same_rows, node_step, checks, check_answer}
use Rattle.mtl.specs.Shortest.{of_all, of_any, written, certificate}
use Rattle.mtl.specs.Settling.{settlement}
use Rattle.mtl.specs.Samples.{AllSamples}

pub all_samples : AllSamples
unfolding settlement certificate written of_any of_all forms ways_in guard for_each run range keep check_answer checks node_step form_at each_alike all_alike same_rows
all_samples =
    ((refl, tt), ((refl, tt), ((refl, tt), ((refl, (refl, tt)), ((refl, tt), ((refl, tt), ((refl, (refl, tt)), ((refl, tt), ((refl, tt), ((refl, tt), tt))))))))))
