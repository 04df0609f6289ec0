-- The instant that the Unix timestamps of parts name: each count that is known is that of it.
use Rattle.std.specs.Prelude.{◌≡◌, ℕ, if◌then◌else◌, codes, ℤ, pos, negsuc, ◌+ℤ◌, ◌*ℤ◌, ◌%◌}
use Rattle.std.specs.Prelude.{Bool, IfSome, Option, Some, None, Result, Ok, Err, is_some, ◌&&◌, ◌||◌}
use Rattle.calendar_values.specs.Clock.{nanos_per_second, nanos_per_millisecond, nanos_per_microsecond}
use Rattle.calendar_values.specs.Range.{is_outside}
use Rattle.calendar_values.specs.Refusals.{Refusal}
use Rattle.calendar_values.specs.WallClock.{unix_seconds_of}
use Rattle.stamp_times.specs.Instants.{unix_milliseconds_of, unix_microseconds_of, unix_nanosecond_of}
use Rattle.utc_times.specs.UnixTime.{instant_or_refusal}
use Rattle.format_descriptions.specs.ClockValues.{or_zero}
use Rattle.format_descriptions.specs.PartTests.{fits, fits_signed}
use Rattle.format_descriptions.specs.Values.{or_wrong, day_unless}
use Rattle.format_descriptions.specs.declared.modifiers.UnixPrecision.{UnixPrecision}
use Rattle.format_descriptions.specs.declared.modifiers.UnixPrecision.TheVariants.{Seconds, Milliseconds, Microseconds, Nanoseconds}
use Rattle.format_descriptions.specs.declared.parts.Parts.{Parts}
use Rattle.format_descriptions.specs.declared.value_refusal.Field.{Field}
use Rattle.format_descriptions.specs.declared.value_refusal.Field.TheVariants.{Subsecond, UnixSecond, UnixMillisecond, UnixMicrosecond, UnixNanosecond}
use Rattle.format_descriptions.specs.declared.value_refusal.ValueRefusal.{ValueRefusal}
use Rattle.format_descriptions.specs.declared.value_refusal.ValueRefusal.TheVariants.{Missing, Wrong}

-- each count that is known is that of this instant, and so is the fraction of the second
pub record HasInstantParts (p : Parts) (i : ℤ) : Type 0 where
  pub second : IfSome p.unix_second (λ known. known ≡ unix_seconds_of i)
  pub millisecond : IfSome p.unix_millisecond (λ known. known ≡ unix_milliseconds_of i)
  pub microsecond : IfSome p.unix_microsecond (λ known. known ≡ unix_microseconds_of i)
  pub nanosecond : IfSome p.unix_nanosecond (λ known. known ≡ i)
  pub subsecond : IfSome p.nanosecond (λ known. known ≡ unix_nanosecond_of i)

-- the parts tell one instant: by a count of nanoseconds, or by another count and the nanosecond of the second
abbrev pub tells_instant : Parts → Bool
tells_instant p =
    is_some p.unix_nanosecond || ((is_some p.unix_microsecond || (is_some p.unix_millisecond || is_some p.unix_second)) && is_some p.nanosecond)

-- a count that is 0 where it is not known
abbrev pub or_no_count : Option ℤ → ℤ
or_no_count None = pos 0
or_no_count (Some n) = n

-- the first count that is not that of this instant
unfoldable pub wrong_instant : Parts → ℤ → Option Field
wrong_instant p i =
    or_wrong (fits_signed p.unix_second (unix_seconds_of i)) UnixSecond
    (or_wrong (fits_signed p.unix_millisecond (unix_milliseconds_of i)) UnixMillisecond
    (or_wrong (fits_signed p.unix_microsecond (unix_microseconds_of i)) UnixMicrosecond
    (or_wrong (fits_signed p.unix_nanosecond i) UnixNanosecond (or_wrong (fits p.nanosecond (unix_nanosecond_of i)) Subsecond None))))

-- an instant of the range, if each count is that of it
abbrev pub instant_with : Parts → Field → Result ℤ Refusal → Result ℤ ValueRefusal
instant_with p wrong (Ok i) = day_unless i (wrong_instant p i)
instant_with p wrong (Err refusal) = Err (Wrong wrong)

-- the instant of a number of nanoseconds
abbrev pub instant_at : Parts → Field → ℤ → Result ℤ ValueRefusal
instant_at p wrong i = instant_with p wrong (instant_or_refusal (codes "nanoseconds") i)

-- a count, in nanoseconds
abbrev pub unix_nanoseconds : UnixPrecision → ℤ → ℤ
unix_nanoseconds Seconds n = n *ℤ pos nanos_per_second
unix_nanoseconds Milliseconds n = n *ℤ pos nanos_per_millisecond
unix_nanoseconds Microseconds n = n *ℤ pos nanos_per_microsecond
unix_nanoseconds Nanoseconds n = n

-- the instant of a count, and of the nanoseconds after it: no count has more than 23 digits
unfoldable pub counted_instant : Parts → Field → UnixPrecision → ℕ → ℤ → Result ℤ ValueRefusal
counted_instant p wrong precision more n =
    if is_outside (negsuc 99_999_999_999_999_999_999_998) (pos 99_999_999_999_999_999_999_999) n then Err (Wrong wrong)
    else instant_at p wrong (unix_nanoseconds precision n +ℤ pos more)

-- the instant that the parts name, by the finest count that is known, or the error
unfoldable pub instant_of_counts : Parts → Result ℤ ValueRefusal
instant_of_counts p =
    if is_some p.unix_nanosecond then counted_instant p UnixNanosecond Nanoseconds 0 (or_no_count p.unix_nanosecond)
    else (if is_some p.unix_microsecond then counted_instant p UnixMicrosecond Microseconds (or_zero p.nanosecond % 1_000) (or_no_count p.unix_microsecond)
    else (if is_some p.unix_millisecond then counted_instant p UnixMillisecond Milliseconds (or_zero p.nanosecond % 1_000_000) (or_no_count p.unix_millisecond)
    else (if is_some p.unix_second then counted_instant p UnixSecond Seconds (or_zero p.nanosecond) (or_no_count p.unix_second)
    else Err (Missing UnixSecond))))
