-- A reader whose first bytes are read ahead.
use Rattle.std.specs.Prelude.{◌≡◌, ℕ, Bool, List, ◌++◌, drop, length, Option, is_some, Result, MatchResult}
use Rattle.std.specs.Io.KnownBytes.{prepend_known}
use Rattle.stamps.specs.declared.ahead.Ahead.{Ahead}

-- the reader
abbrev pub inner_of : {R : Type 0} → Ahead R → R
inner_of ahead = ahead.inner

-- the bytes that were read ahead, and not again
abbrev pub head_of : {R : Type 0} → Ahead R → List ℕ
head_of ahead = drop ahead.served ahead.head.items

-- whether a read ahead failed
abbrev pub has_fault : {R : Type 0} → Ahead R → Bool
has_fault ahead = is_some ahead.fault

-- the bytes left to read: those that were read ahead, and then those of the reader, where they are known
abbrev pub left_of : {R : Type 0} → (R → Option (List ℕ)) → Ahead R → Option (List ℕ)
left_of remaining ahead = prepend_known (head_of ahead) (remaining ahead.inner)

-- so many bytes are at the end of a text that were not there, and after an error none
abbrev pub LongerBy : {E : Type 0} → Result ℕ E → List ℕ → List ℕ → Type 0
LongerBy result old new =
    MatchResult result (λ count. (more : List ℕ) × (new ≡ old ++ more) × (length more ≡ count)) (λ fault. new ≡ old)
