-- The answers of the exported functions.
use Rattle.std.specs.Prelude.{ℕ, List, length, Some, None, Ok, Err, Option, Result}
use Rattle.mtl.specs.declared.ruling.Ruling.{Ruling}
use Rattle.mtl.specs.declared.ruling.Ruling.TheVariants.{Held, Broken}
use Rattle.mtl.specs.declared.ruling.Claim.{Claim}
use Rattle.mtl.specs.declared.ruling.Settled.{Settled}
use Rattle.texts.specs.Outcomes.{Outcome}
use Rattle.texts.specs.declared.fault.Told.{Told}
use Rattle.c_api.specs.declared.answer.Refused.{Refused}
use Rattle.c_api.specs.declared.answer.ReadAnswer.{ReadAnswer}
use Rattle.c_api.specs.declared.answer.CheckAnswer.{CheckAnswer}
use Rattle.c_api.specs.declared.answer.SettleAnswer.{SettleAnswer}
use Rattle.c_api.specs.Readings.{rules_read, log_read, check_finds, settle_finds}
use Rattle.c_api.specs.Refusals.{unrefused, in_rules, in_log}

abbrev pub ruling_code : Ruling → ℕ
ruling_code Held = 1
ruling_code Broken = 2

abbrev pub refusal_in : (Told → Refused) → Option Told → Refused
refusal_in place None = unrefused
refusal_in place (Some t) = place t

-- the refusal if there is one, and how many entries were read
abbrev pub read_returns : {X : Type 0} → (Told → Refused) → Outcome X → ReadAnswer
read_returns place o = record { refusal = refusal_in place o.refused; count = length o.entries }

abbrev pub read_rules_returns : List ℕ → ReadAnswer
read_rules_returns text = read_returns in_rules (rules_read text)

abbrev pub read_log_returns : List ℕ → ReadAnswer
read_log_returns text = read_returns in_log (log_read text)

abbrev pub of_claim : Result Claim Refused → CheckAnswer
of_claim (Ok c) = record { refusal = unrefused; line = c.line; row = c.row; ruling = ruling_code c.ruling }
of_claim (Err e) = record { refusal = e; line = 0; row = 0; ruling = 0 }

abbrev pub check_returns : List ℕ → List ℕ → List ℕ → CheckAnswer
check_returns rules log cert = of_claim (check_finds rules log cert)

abbrev pub of_settled : Result Settled Refused → SettleAnswer
of_settled (Ok s) = record { refusal = unrefused; ruling = ruling_code s.ruling; size = s.size }
of_settled (Err e) = record { refusal = e; ruling = 0; size = 0 }

abbrev pub settle_returns : List ℕ → List ℕ → ℕ → ℕ → ℕ → SettleAnswer
settle_returns rules log n i out = of_settled (settle_finds rules log n i out)
