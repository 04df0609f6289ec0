-- The parts of an error that count units.
use Rattle.std.specs.Prelude.{ℕ, Bool, List, [], ◌∷◌}
use Rattle.std.specs.List.{list_any}
use Rattle.calendar_values.specs.Parts.{is_name_of}
use Rattle.calendar_values.specs.declared.component_range.Part.{Part}
use Rattle.calendar_values.specs.declared.component_range.Part.TheVariants.{Hours, Minutes, Seconds, OffsetSeconds, Timestamp, Milliseconds, Microseconds}
use Rattle.calendar_values.specs.declared.component_range.Part.TheVariants.{Nanoseconds}

abbrev pub count_parts : List Part
count_parts = Hours ∷ Minutes ∷ Seconds ∷ OffsetSeconds ∷ Timestamp ∷ Milliseconds ∷ Microseconds ∷ Nanoseconds ∷ []

-- a part that counts units has this name
abbrev pub is_count_name : List ℕ → Bool
is_count_name name = list_any (is_name_of name) count_parts
