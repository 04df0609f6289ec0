-- The texts that are written: a decimal of seconds, and the units in short.
use Rattle.std.specs.Prelude.{ℕ, ◌/◌, ◌%◌, ◌==◌, List, [], ◌∷◌, ◌++◌, codes, decimal, if◌then◌else◌, int_lt, ℤ, pos, unsigned_abs}
use Rattle.calendar_values.specs.Clock.{nanos_per_microsecond, nanos_per_millisecond, nanos_per_second, nanos_per_minute, nanos_per_hour, nanos_per_day}
use Rattle.calendar_values.specs.Digits.{fraction_digits}
use Rattle.duration_texts.specs.Grammar.{Sign, sign_text}
use Rattle.duration_texts.specs.Grammar.Sign.{Unsigned, Minus}
use Rattle.duration_texts.specs.Numbers.{Number, number_text}

-- the sign of a duration: a minus before a negative one
abbrev pub sign_of : ℤ → Sign
sign_of d = if int_lt d (pos 0) then Minus else Unsigned

-- the digits after the point, without zeros at their end: none of 0 nanoseconds
abbrev pub fraction_of : ℕ → List ℕ
fraction_of n = if n == 0 then [] else fraction_digits 9 n

-- seconds, and nanoseconds that make less than a second, as a number
abbrev pub seconds_number : ℕ → ℕ → Number
seconds_number s n = record { whole = decimal s; fraction = fraction_of n }

-- a number of nanoseconds, as seconds with a fraction
abbrev pub seconds_of : ℕ → Number
seconds_of n = seconds_number (n / nanos_per_second) (n % nanos_per_second)

-- the decimal of the seconds of a duration, such as -0.5
unfoldable pub seconds_text : ℤ → List ℕ
seconds_text d = sign_text (sign_of d) ++ number_text (seconds_of (unsigned_abs d))

-- the units in short, from the longest on: the first name of each in `units`, and its nanoseconds
abbrev pub short_units : List (List ℕ × ℕ)
short_units =
    (codes "d", nanos_per_day)
    ∷ (codes "h", nanos_per_hour)
    ∷ (codes "m", nanos_per_minute)
    ∷ (codes "s", nanos_per_second)
    ∷ (codes "ms", nanos_per_millisecond)
    ∷ (codes "us", nanos_per_microsecond)
    ∷ (codes "ns", 1)
    ∷ []

-- a number of a unit, unless it is 0
abbrev pub count_text : ℕ → List ℕ → List ℕ
count_text count name = if count == 0 then [] else decimal count ++ name

-- the numbers of all units that there are some of: each is what the unit before leaves
abbrev pub counts_text : List (List ℕ × ℕ) → ℕ → List ℕ
counts_text [] n = []
counts_text (unit ∷ units) n = count_text (n / unit.1) unit.0 ++ counts_text units (n % unit.1)

-- the text in short, such as -1d2h3m, or 0s
unfoldable pub short_text : ℤ → List ℕ
short_text d = if unsigned_abs d == 0 then codes "0s" else sign_text (sign_of d) ++ counts_text short_units (unsigned_abs d)
