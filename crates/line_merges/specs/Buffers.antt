-- Bytes that are read after others.
use Rattle.std.specs.Prelude.{◌≡◌, ℕ, Bool, true, List, ◌++◌, length, Option, Result, MatchResult}
use Rattle.std.specs.Io.KnownBytes.{Consumes, IsAtEnd, Keeps}
use Rattle.line_devices.specs.declared.devices.DeviceFault.{DeviceFault}

-- more bytes were read from the reader: none at its end
pub record Behind (count : ℕ) (old new : List ℕ) (was_left left : Option (List ℕ)) : Type 0 where
  pub more : List ℕ
  pub added : new ≡ old ++ more
  pub number : length more ≡ count
  pub consumed : Consumes was_left left more
  pub end : count ≡ 0 → IsAtEnd left

-- more bytes were read after those that were there, or the reader failed, which sets its mark
abbrev pub ReadsMore : Result ℕ DeviceFault → List ℕ → List ℕ → Option (List ℕ) → Option (List ℕ) → Bool → Bool → Type 0
ReadsMore result old new was_left left was_marked is_marked =
    MatchResult result (λ count. Behind count old new was_left left × (is_marked ≡ was_marked))
    (λ _. (new ≡ old) × Keeps was_left left × (is_marked ≡ true))
