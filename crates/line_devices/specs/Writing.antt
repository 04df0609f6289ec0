-- The bytes of a text that were written, if the written bytes are known.
use Rattle.std.specs.Prelude.{◌≡◌, ◌⊎◌, ℕ, ◌<◌, Bool, true, List, [], ◌++◌, length, Option, Result, MatchResult}
use Rattle.std.specs.Io.KnownBytes.{Appends}

-- a beginning of the bytes was written, and not all of them
pub record AppendsBeginning (old new : Option (List ℕ)) (bytes : List ℕ) : Type 0 where
  pub beginning : List ℕ
  pub missing : List ℕ
  pub appended : Appends old new beginning
  pub whole : bytes ≡ beginning ++ missing
  pub some_missing : 0 < length missing

-- the bytes are those that were written, and then those that are pending
pub record Sends (old new : Option (List ℕ)) (pending bytes : List ℕ) : Type 0 where
  pub sent : List ℕ
  pub appended : Appends old new sent
  pub whole : bytes ≡ sent ++ pending

-- all of the bytes were written, or after a fault a beginning of them and not all
abbrev pub WritesAll : {T E : Type 0} → Result T E → Option (List ℕ) → Option (List ℕ) → List ℕ → Type 0
WritesAll result old new bytes = MatchResult result (λ _. Appends old new bytes) (λ _. AppendsBeginning old new bytes)

-- a fault sets the mark; else it stays as it was
abbrev pub MarksFailure : {T E : Type 0} → Result T E → Bool → Bool → Type 0
MarksFailure result old new = MatchResult result (λ _. new ≡ old) (λ _. new ≡ true)

-- the bytes were sent, or after a fault a beginning of them was written and not all
abbrev pub SendsAll : {T E : Type 0} → Result T E → Option (List ℕ) → Option (List ℕ) → List ℕ → List ℕ → Type 0
SendsAll result old new pending bytes = MatchResult result (λ _. Sends old new pending bytes) (λ _. AppendsBeginning old new bytes)

-- all of some bytes were written, and a beginning of others after them and not all
pub record AppendsFirst (old new : Option (List ℕ)) (first second : List ℕ) : Type 0 where
  pub between : Option (List ℕ)
  pub appended : Appends old between first
  pub beginning : AppendsBeginning between new second

-- after a fault the pending bytes stay, of which a beginning was written; or none is pending, and a beginning of the text was written after them
abbrev pub StopsSending : Option (List ℕ) → Option (List ℕ) → List ℕ → List ℕ → List ℕ → Type 0
StopsSending old new before after text = ((after ≡ before) × AppendsBeginning old new before) ⊎ ((after ≡ []) × AppendsFirst old new before text)
