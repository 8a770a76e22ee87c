-- Every refusal in numbers.
use Rattle.std.specs.Prelude.{ℕ, Ok, Err, Result}
use Rattle.texts.specs.Faults.{told}
use Rattle.texts.specs.declared.fault.Told.{Told}
use Rattle.texts.specs.declared.fault.Layer.{Layer}
use Rattle.texts.specs.declared.fault.Layer.TheVariants.{Text, Table, Log as LogLayer}
use Rattle.checker.specs.Told.{fault_told}
use Rattle.writer.specs.Told.{settle_number}
use Rattle.c_api.specs.declared.answer.Refused.{Refused}
use Rattle.c_api.specs.declared.refusal.Refusal.{Refusal}
use Rattle.c_api.specs.declared.refusal.Refusal.TheVariants.{Rules, Log, Check, Settle}

abbrev pub layer_code : Layer → ℕ
layer_code Text = 1
layer_code Table = 2
layer_code LogLayer = 3

-- a fault of a text: of the rules, or of the log
abbrev pub in_text : ℕ → Told → Refused
in_text text t = record { number = t.number; text = text; layer = layer_code t.layer; line = t.line; field = t.field; node = 0 }

abbrev pub in_rules : Told → Refused
in_rules t = in_text 1 t

abbrev pub in_log : Told → Refused
in_log t = in_text 2 t

-- a question answered no at a node of a certificate; one that has no place at all is told with node 0
abbrev pub at_node : ℕ → ℕ → Refused
at_node number node = record { number = number; text = 0; layer = 0; line = 0; field = 0; node = node }

-- nothing is refused
abbrev pub unrefused : Refused
unrefused = at_node 0 0

abbrev pub refused_by : Refusal → Refused
refused_by (Rules f) = in_rules (told f)
refused_by (Log f) = in_log (told f)
refused_by (Check f) = at_node (fault_told f).0 (fault_told f).1
refused_by (Settle f) = at_node (settle_number f) 0

-- the refusal, or none where the call is accepted
abbrev pub refused_or_none : {A : Type 0} → Result A Refused → Refused
refused_or_none (Ok a) = unrefused
refused_or_none (Err e) = e
