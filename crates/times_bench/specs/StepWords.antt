-- The step of a word of a chain.
use Rattle.std.specs.Prelude.{ℕ, ◌+◌, ◌*◌, ◌-◌, ◌==◌, ◌&&◌, nat_lt, not, List, [], ◌∷◌, ℤ, pos, neg_ℤ, codes, if◌then◌else◌, Option, Some, None}
use Rattle.std.specs.Char.{is_ascii_digit}
use Rattle.std.specs.Option.{option_map, option_and_then}
use Rattle.std.specs.Str.{bytes_eq}
use Rattle.stamp_times.specs.declared.chains.steps.Step.{Step}
use Rattle.stamp_times.specs.declared.chains.steps.Step.TheVariants.{ToStamp, ToUtc, ToOffset}
use Rattle.times_bench.specs.Words.{cut_at, exactly_three}

-- two decimal digits, of a number that is at most the first
unfoldable pub two_digits : ℕ → List ℕ → Option ℕ
two_digits most [] = None
two_digits most (tens ∷ []) = None
two_digits most (tens ∷ units ∷ []) =
    if is_ascii_digit tens && is_ascii_digit units && not (nat_lt most ((tens - 48) * 10 + (units - 48))) then Some ((tens - 48) * 10 + (units - 48)) else None
two_digits most (tens ∷ units ∷ next ∷ digits) = None

-- the seconds of hours, minutes and seconds of two digits each: at most 25, 59 and 59
unfoldable pub seconds_of_words : List (List ℕ) → Option ℤ
seconds_of_words words =
    option_and_then (λ parts. option_and_then (λ h. option_and_then (λ m.
    option_map (λ s. pos (h * 3_600 + m * 60 + s)) (two_digits 59 parts.2)) (two_digits 59 parts.1)) (two_digits 25 parts.0))
    (exactly_three words)

-- an offset: `+` or `-`, then hours, minutes and seconds with `:` between
unfoldable pub parse_offset : List ℕ → Option ℤ
parse_offset [] = None
parse_offset (sign ∷ text) =
    if sign == 43 then seconds_of_words (cut_at 58 text)
    else (if sign == 45 then option_map neg_ℤ (seconds_of_words (cut_at 58 text))
    else None)

-- a step: `stamp`, `utc` or an offset
unfoldable pub step_of : List ℕ → Option Step
step_of word =
    if bytes_eq word (codes "stamp") then Some ToStamp
    else (if bytes_eq word (codes "utc") then Some ToUtc
    else option_map ToOffset (parse_offset word))
