-- The results of calls with descriptions.
use Rattle.std.specs.Prelude.{ℕ, List, length, Result, Ok, Err}
use Rattle.muxandu_c.specs.Answers.{status_number}
use Rattle.muxandu_c.specs.declared.outcomes.Fault.{Fault}
use Rattle.muxandu_c.specs.declared.outcomes.MuxanduOutcome.{MuxanduOutcome}
use Rattle.muxandu_c.specs.declared.refused.Refused.{Refused}

-- an error that has neither a place nor a reason
abbrev pub fault_of : Refused → Fault
fault_of refusal = record { place = 0; refused = refusal; reason = 0 }

-- the next step with the value of a first one, or the error of the first
abbrev pub then_with : {A B E : Type 0} → Result A E → (A → Result B E) → Result B E
then_with (Ok value) next = next value
then_with (Err fault) next = Err fault

-- the same with an error that has neither a place nor a reason
abbrev pub as_fault : {A : Type 0} → Result A Refused → Result A Fault
as_fault (Ok value) = Ok value
as_fault (Err refusal) = Err (fault_of refusal)

-- a value, or its error alone
abbrev pub error_alone : {A : Type 0} → Result A Fault → Result A Refused
error_alone (Ok value) = Ok value
error_alone (Err fault) = Err fault.refused

-- the number of values
abbrev pub size_of : {A E : Type 0} → Result (List A) E → Result ℕ E
size_of (Ok values) = Ok (length values)
size_of (Err fault) = Err fault

-- the result of a call that writes this number of items or bytes
abbrev pub outcome_of : Result ℕ Fault → MuxanduOutcome
outcome_of (Ok size) = record { size = size; status = 0; reason = 0 }
outcome_of (Err fault) = record { size = fault.place; status = status_number fault.refused; reason = fault.reason }
