-- What the lengths of the calls' own buffers come to.
use Rattle.std.specs.Prelude.{ℕ, ◌≤◌, List, Err, ◌≢◌}
use Rattle.mtl.specs.declared.row.Row.{Row}
use Rattle.mtl.specs.Checking.{refused, check_answer}
use Rattle.mtl.specs.Lines.{Rules}
use Rattle.mtl.specs.Settling.{settle_answer}
use Rattle.c_api.specs.Readings.{room_for}

-- no certificate is refused for want of a stack (13)
abbrev pub StackEnough : Type 0
StackEnough = (T : Rules) (R : List Row) (cert : List ℕ) (k : ℕ) → check_answer T R cert 4096 ≢ refused 13 k

-- no Settle is refused for want of work buffers (23)
abbrev pub BuffersEnough : Type 0
BuffersEnough = (T : Rules) (R : List Row) (n i out : ℕ) → settle_answer T R n i (room_for out) ≢ Err 23

-- and none for want of output (26) where that has 24,576 bytes
abbrev pub OutputEnough : Type 0
OutputEnough = (T : Rules) (R : List Row) (n i out : ℕ) → 24576 ≤ out → settle_answer T R n i (room_for out) ≢ Err 26
