-- The text of a timestamp.
use Rattle.std.specs.Prelude.{ℕ, ◌/◌, ◌%◌, ◌==◌, List, [], ◌++◌, codes, decimal, if◌then◌else◌, int_lt, ℤ, pos, unsigned_abs}
use Rattle.calendar_values.specs.Clock.{nanos_per_second}
use Rattle.calendar_values.specs.Digits.{fraction_digits}

-- a fraction of a second: `.` and its digits without zeros at the end, or nothing if it is 0
unfoldable pub fraction_text : ℕ → List ℕ
fraction_text n = if n == 0 then [] else codes "." ++ fraction_digits 9 n

-- the text of a number of seconds, and of nanoseconds that are less than a second
unfoldable pub seconds_text : ℕ → ℕ → List ℕ
seconds_text s n = decimal s ++ fraction_text n

-- the signed decimal of the instant in seconds: `-` before a negative one
unfoldable pub timestamp_text : ℤ → List ℕ
timestamp_text i =
    (if int_lt i (pos 0) then codes "-" else []) ++ seconds_text (unsigned_abs i / nanos_per_second) (unsigned_abs i % nanos_per_second)
