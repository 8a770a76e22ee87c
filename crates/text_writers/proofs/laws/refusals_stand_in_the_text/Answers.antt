use Rattle.text_writers.proofs.WithinText.{rules_within, logs_within}
use Rattle.text_writers.proofs.laws.refusals_stand_in_the_text.Goals as goal

pub returns : goal.returns
returns c = record { rules = rules_within; logs = logs_within }
