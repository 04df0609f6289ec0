-- The outcome of a call that may fail, stated once. Callers read it as a value with its condition and an error;
-- layers that calculate with it read it as an equation.
use Rattle.std.specs.Prelude.{◌≡◌, ℕ, ◌≤◌, List, Result, Ok, Err, OkIff, IfErr, if◌then◌else◌, nat_lt}
use Rattle.calendar_values.specs.Refusals.{Refusal, outright_refusal}

-- the condition that the arguments fit, the value if they do, the error if they do not, and all three as one answer
pub record Outcome (T : Type 0) : Type 1 where
  pub fits : Type 0
  pub value : T
  pub refusal : Refusal
  pub answer : Result T Refusal

-- the result is Ok with the value exactly if the arguments fit, and else the error; so it is the answer
pub record Gives {T : Type 0} (result : Result T Refusal) (outcome : Outcome T) : Type 0 where
  pub value : OkIff result outcome.fits outcome.value
  pub refused : IfErr result (λ refusal. refusal ≡ outcome.refusal)
  pub equation : result ≡ outcome.answer

-- the answer of the outcome is the value if the arguments fit, and else the error
abbrev pub IsOneAnswer : {T : Type 0} → Outcome T → Type 0
IsOneAnswer outcome = Gives outcome.answer outcome

-- the outcome of a part up to a limit: the value, or else the error that names the part
abbrev pub at_most : {T : Type 0} → ℕ → List ℕ → ℕ → T → Outcome T
at_most limit name part value = record {
  fits = part ≤ limit;
  value = value;
  refusal = outright_refusal name;
  answer = if nat_lt limit part then Err (outright_refusal name) else Ok value;
}

-- the value, put in its place, or the error
abbrev pub answer_within : {S T : Type 0} → (S → T) → Result S Refusal → Result T Refusal
answer_within put (Ok value) = Ok (put value)
answer_within put (Err refusal) = Err refusal

-- the same outcome, with its value put in its place
abbrev pub within : {S T : Type 0} → (S → T) → Outcome S → Outcome T
within put outcome = record {
  fits = outcome.fits;
  value = put outcome.value;
  refusal = outcome.refusal;
  answer = answer_within put outcome.answer;
}
