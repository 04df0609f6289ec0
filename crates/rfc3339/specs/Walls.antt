-- The first 19 bytes of a text: a date, a separator, and a time of day to the second.
use Rattle.std.specs.Prelude.{◌≡◌, ℕ, ◌<◌, List, [], ◌∷◌, ◌++◌, Option, Some}
use Rattle.rfc3339.specs.Form.{date_digits, clock_digits, IsFraction, IsOffsetText}
use Rattle.rfc3339.specs.Reading.{◌>>=◌, fraction_at, zone_at, parts_read, with_no_rest}
use Rattle.rfc3339.specs.declared.parts.Parts.{Parts}

-- these bytes, with `T` between the date and the time of day
unfoldable pub wall_text : Parts → List ℕ
wall_text p = date_digits p ++ 84 ∷ [] ++ clock_digits p

-- a fraction and an offset, after these numbers
abbrev pub fraction_on : Parts → List ℕ → Option (Parts × List ℕ)
fraction_on p text = do
  fraction ← fraction_at text
  zone ← zone_at fraction.1
  Some (parts_read p.year p.month p.day p.hour p.minute p.second fraction.0 zone.0, zone.1)

-- the same, with nothing after them
abbrev pub parts_on : Parts → List ℕ → Option Parts
parts_on p text = fraction_on p text >>= λ read. with_no_rest read.0 read.1

-- q has the numbers of p to the second, and those of the text: a fraction and an offset
pub record IsAfterSecond (p : Parts) (text : List ℕ) (q : Parts) : Type 0 where
  pub fraction : List ℕ
  pub offset : List ℕ
  pub spelled : text ≡ fraction ++ offset
  pub is_fraction : IsFraction fraction q.nanosecond
  pub is_offset : IsOffsetText offset q.is_west q.offset_hour q.offset_minute
  pub hour_fits : q.offset_hour < 100
  pub minute_fits : q.offset_minute < 100
  pub kept : q ≡ parts_read p.year p.month p.day p.hour p.minute p.second q.nanosecond (q.is_west, q.offset_hour, q.offset_minute)
