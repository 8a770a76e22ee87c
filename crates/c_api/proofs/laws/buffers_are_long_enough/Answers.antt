use Rattle.c_api.proofs.Enough.{stack_enough, buffers_enough, output_enough}
use Rattle.c_api.proofs.laws.buffers_are_long_enough.Goals as goal

pub returns : goal.returns
returns c = record { stack = stack_enough; work = buffers_enough; output = output_enough }
