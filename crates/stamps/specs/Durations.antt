-- The durations of the command line, as 90s, 5m or 1h30m.
use Rattle.std.specs.Prelude.{ℕ, ◌+◌, ◌-◌, ◌*◌, ◌==◌, ◌&&◌, nat_lt, not, List, [], ◌∷◌, if◌then◌else◌, Option, Some, None}
use Rattle.std.specs.Char.{is_ascii_digit}
use Rattle.std.specs.Option.{option_and_then}

-- the seconds of a unit by its letter: d, h, m or s
abbrev pub unit_seconds : ℕ → ℕ
unit_seconds byte =
    if byte == 100 then 86_400 else (if byte == 104 then 3_600 else (if byte == 109 then 60 else (if byte == 115 then 1 else 0)))

-- the most seconds of a duration
abbrev pub most_seconds : ℕ
most_seconds = 1_000_000_000_000

-- the number of digits, or 0 of none
abbrev pub number_of : Option ℕ → ℕ
number_of (Some number) = number
number_of None = 0

-- the number with one more digit, if it has nine at most
abbrev pub with_digit : ℕ → ℕ → Option ℕ
with_digit number digit = if nat_lt number 100_000_000 then Some (number * 10 + (digit - 48)) else None

-- the seconds with a number of a unit, if that is smaller than the last one
abbrev pub with_unit : ℕ → ℕ → ℕ → ℕ → Option ℕ
with_unit total last number unit =
    if nat_lt 0 unit && (nat_lt unit last && not (nat_lt most_seconds (total + number * unit))) then Some (total + number * unit) else None

-- the seconds of a text after some seconds and a unit, and after the digits of a number if there are any
abbrev pub duration_from : ℕ → ℕ → Option ℕ → List ℕ → Option ℕ
duration_from total last None [] = Some total
duration_from total last (Some number) [] = None
duration_from total last number (byte ∷ bytes) =
    if is_ascii_digit byte then option_and_then (λ more. duration_from total last (Some more) bytes) (with_digit (number_of number) byte)
    else option_and_then (λ sum. duration_from sum (unit_seconds byte) None bytes)
    (option_and_then (λ count. with_unit total last count (unit_seconds byte)) number)

-- the seconds of a text, if it is a duration: whole numbers with the units d, h, m and s, in this order
unfoldable pub duration_of : List ℕ → Option ℕ
duration_of [] = None
duration_of (byte ∷ bytes) = duration_from 0 86_401 None (byte ∷ bytes)
