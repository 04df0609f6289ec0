-- The entries of logs.
use Rattle.std.specs.Prelude.{◌⊎◌, ℤ, List, Contains}

-- an entry of one of two lists
unfoldable pub IsOfEither : List ℤ → List ℤ → ℤ → Type 0
IsOfEither first second entry = Contains first entry ⊎ Contains second entry
