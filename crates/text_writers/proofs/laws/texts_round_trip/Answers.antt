use Rattle.text_writers.proofs.LogsBack.{logs_back, mask_logs_back}
use Rattle.text_writers.proofs.RulesBack.{rules_back}
use Rattle.text_writers.proofs.laws.texts_round_trip.Goals as goal

pub returns : goal.returns
returns c = record { rules = rules_back; logs = logs_back; mask_logs = mask_logs_back }
