-- The size of an instant in seconds and nanoseconds.
use Rattle.calendar_values.specs.SignedArith.{signed_casts}
use Rattle.stamp_times.specs.TimestampLemmas.{instant_of_parts-of}

pub ruleset second_magnitudes = (signed_casts, instant_of_parts-of)
