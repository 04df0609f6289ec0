-- Texts in UTC, of whole seconds.
use Rattle.std.specs.Prelude.{◌≡◌, ◌≤◌, false}
use Rattle.rfc3339.specs.declared.parts.Parts.{Parts}

-- a year of four digits, no fraction, and the offset 0
pub record IsUtc (p : Parts) : Type 0 where
  pub year : p.year ≤ 9_999
  pub nanosecond : p.nanosecond ≡ 0
  pub east : p.is_west ≡ false
  pub offset_hour : p.offset_hour ≡ 0
  pub offset_minute : p.offset_minute ≡ 0
