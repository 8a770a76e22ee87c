use Rattle.text_writers.proofs.LogsOnly.{logs_only, logs_differ}
use Rattle.text_writers.proofs.RulesOnly.{rules_only, rules_differ}
use Rattle.text_writers.proofs.laws.texts_are_unique.Goals as goal

pub returns : goal.returns
returns c = record { rules = rules_only; rules_differ = rules_differ; logs = logs_only; logs_differ = logs_differ }
