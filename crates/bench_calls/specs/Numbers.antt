-- The answers of Check and Settle in numbers.
use Rattle.std.specs.Prelude.{ℕ, Bool, true, false, Ok, Err, Result}
use Rattle.mtl.specs.Checking.{Verdict, accepted, refused}
use Rattle.mtl.specs.declared.ruling.Ruling.{Ruling}
use Rattle.mtl.specs.declared.ruling.Ruling.TheVariants.{Held, Broken}
use Rattle.mtl.specs.declared.ruling.Settled.{Settled}
use Rattle.bench_calls.specs.declared.answers.Checked.{Checked}
use Rattle.bench_calls.specs.declared.answers.Settling.{Settling}

abbrev pub is_held : Ruling → Bool
is_held Held = true
is_held Broken = false

-- question 0 says that the claim is accepted
abbrev pub check_numbers : Verdict → Checked
check_numbers (accepted c) = record { question = 0; node = 0; line = c.line; row = c.row; held = is_held c.ruling }
check_numbers (refused q k) = record { question = q; node = k; line = 0; row = 0; held = false }

-- question 0 says that the line is settled
abbrev pub settle_numbers : Result Settled ℕ → Settling
settle_numbers (Ok s) = record { question = 0; size = s.size; held = is_held s.ruling }
settle_numbers (Err q) = record { question = q; size = 0; held = false }
