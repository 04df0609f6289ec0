-- Unix seconds as texts.
use Rattle.std.specs.Prelude.{ℕ, ◌/◌, ◌%◌, List, [], ◌++◌, codes, decimal, if◌then◌else◌, int_lt, ℤ, pos, unsigned_abs}
use Rattle.calendar_values.specs.Clock.{nanos_per_second}
use Rattle.calendar_values.specs.Digits.{last_digits}

-- the signed decimal of the instant in seconds, with nine digits after the point: `-` before a negative one
unfoldable pub unix_text : ℤ → List ℕ
unix_text i =
    (if int_lt i (pos 0) then codes "-" else [])
    ++ decimal (unsigned_abs i / nanos_per_second) ++ codes "." ++ last_digits 9 (unsigned_abs i % nanos_per_second)
