-- What Settle leaves in the output.
use Rattle.std.specs.Prelude.{ℕ, List, [], ◌++◌, length, drop, Ok, Err, Result}
use Rattle.mtl.specs.Settling.{settle_answer, settle_writes}
use Rattle.c_api.specs.declared.answer.Refused.{Refused}
use Rattle.c_api.specs.Readings.{table_in, rows_in, room_for}

-- no bytes where a text is refused
abbrev pub or_none : {A : Type 0} → Result A Refused → (A → List ℕ) → List ℕ
or_none (Ok a) f = f a
or_none (Err e) f = []

-- the bytes of the certificate, none where the call is refused
abbrev pub settle_bytes : List ℕ → List ℕ → ℕ → ℕ → ℕ → List ℕ
settle_bytes rules log n i out = or_none (table_in rules) (λ T. or_none (rows_in log) (λ R. settle_writes T R n i (settle_answer T R n i (room_for out))))

-- bytes at the front of what stood there, and the rest as it was
abbrev pub overwritten : List ℕ → List ℕ → List ℕ
overwritten bytes old = bytes ++ drop (length bytes) old
