-- The consequences of a result that is a fault, since it is no success.
use Rattle.std.proofs.Common.{Result, Ok, Err}
use Rattle.std.proofs.lemmas.Bool.{false≢true}
use Rattle.std.specs.Prelude.{IsErrAnd, IsOk, OnOk}

-- a condition on success alone is true of a fault
pub OnOk-fault : {T E : Type 0} (Q : E → Type 0) (P : Type 0) (result : Result T E) → IsErrAnd result Q → OnOk result P
OnOk-fault Q P (Ok done) fault = absurd fault
OnOk-fault Q P (Err by) fault = tt

pub fault-not_ok : {T E : Type 0} (Q : E → Type 0) (result : Result T E) → IsErrAnd result Q → IsOk result → ⊥
fault-not_ok Q (Ok done) fault ok = fault
fault-not_ok Q (Err by) fault ok = false≢true ok
