-- The order of the moments that texts write, with seconds of 60, and of the instants of their readings.
use Rattle.std.specs.Prelude.{◌≡◌, ◌⊎◌, ℕ, ◌+◌, ◌*◌, ◌<◌, Bool, true, List, ℤ, pos, ◌+ℤ◌, ◌-ℤ◌, ◌*ℤ◌, ◌<ℤ◌, ◌≤ℤ◌, Ok}
use Rattle.calendar_values.specs.Calendar.{day_of_calendar_date}
use Rattle.offset_times.specs.Local.{Local, instant_of}
use Rattle.rfc3339.specs.Form.{IsDateTime}
use Rattle.rfc3339.specs.LeapSeconds.{leap_reading_of}
use Rattle.rfc3339.specs.Meaning.{offset_of}
use Rattle.rfc3339.specs.declared.parts.Parts.{Parts}

-- the Unix second at which the minute begins
abbrev pub minute_begin : Parts → ℤ
minute_begin p =
    (day_of_calendar_date (pos p.year) p.month p.day *ℤ pos 86_400) +ℤ pos (p.hour * 3_600 + p.minute * 60)
    -ℤ offset_of p.is_west p.offset_hour p.offset_minute

-- the first numbers write an earlier moment: an earlier minute in UTC, or an earlier second of it, 0 to 60,
-- or an earlier nanosecond of that second
abbrev pub IsWrittenBefore : Parts → Parts → Type 0
IsWrittenBefore p q =
    (minute_begin p <ℤ minute_begin q)
    ⊎ ((minute_begin p ≡ minute_begin q) × (p.second < q.second))
    ⊎ ((minute_begin p ≡ minute_begin q) × (p.second ≡ q.second) × (p.nanosecond < q.nanosecond))

-- both write the same moment
abbrev pub IsWrittenWith : Parts → Parts → Type 0
IsWrittenWith p q = (minute_begin p ≡ minute_begin q) × (p.second ≡ q.second) × (p.nanosecond ≡ q.nanosecond)

-- the text of an earlier moment reads as an earlier instant, or as the same where the later is a leap second
-- two texts of one moment read as one instant
abbrev pub LeapReadingsKeepTheOrder : Type 0
LeapReadingsKeepTheOrder =
    (first second : List ℕ) (p q : Parts) (a b : Local) (is_leap is_later_leap : Bool)
    → IsDateTime first p → IsDateTime second q
    → leap_reading_of first ≡ Ok (a, is_leap) → leap_reading_of second ≡ Ok (b, is_later_leap)
    → (IsWrittenBefore p q → (instant_of a <ℤ instant_of b) ⊎ ((instant_of a ≡ instant_of b) × (is_later_leap ≡ true)))
    × (IsWrittenWith p q → instant_of a ≡ instant_of b)

-- the offset is 0, with either sign
abbrev pub IsInUtc : Parts → Type 0
IsInUtc p = (p.offset_hour ≡ 0) × (p.offset_minute ≡ 0)

abbrev pub IsSameDate : Parts → Parts → Type 0
IsSameDate p q = (p.year ≡ q.year) × (p.month ≡ q.month) × (p.day ≡ q.day)

abbrev pub IsSameMinute : Parts → Parts → Type 0
IsSameMinute p q = IsSameDate p q × (p.hour ≡ q.hour) × (p.minute ≡ q.minute)

-- the first digits that differ, from the left, are lower
abbrev pub AreDigitsBefore : Parts → Parts → Type 0
AreDigitsBefore p q =
    (p.year < q.year)
    ⊎ ((p.year ≡ q.year) × (p.month < q.month))
    ⊎ ((p.year ≡ q.year) × (p.month ≡ q.month) × (p.day < q.day))
    ⊎ (IsSameDate p q × (p.hour < q.hour))
    ⊎ (IsSameDate p q × (p.hour ≡ q.hour) × (p.minute < q.minute))
    ⊎ (IsSameMinute p q × (p.second < q.second))
    ⊎ (IsSameMinute p q × (p.second ≡ q.second) × (p.nanosecond < q.nanosecond))

-- of two texts in UTC that are read, the one whose digits are earlier is not read as later
pub record DigitsInUtcKeepTheOrder : Type 0 where
  pub order : (first second : List ℕ) (p q : Parts) (a b : Local) (is_leap is_later_leap : Bool)
      → IsDateTime first p → IsDateTime second q → IsInUtc p → IsInUtc q
      → leap_reading_of first ≡ Ok (a, is_leap) → leap_reading_of second ≡ Ok (b, is_later_leap)
      → AreDigitsBefore p q → instant_of a ≤ℤ instant_of b
