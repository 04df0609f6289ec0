-- The first sixteen bytes of a text of RFC 3339: `YYYY-MM-DDTHH:MM`.
use Rattle.std.specs.Prelude.{◌≡◌, ℕ, ◌+◌, ◌-◌, ◌*◌, ◌≤◌, List, slice_index}

-- the bytes have two digits at a place
pub record IsPairAt (bytes : List ℕ) (place : ℕ) : Type 0 where
  pub tens : (48 ≤ slice_index bytes place) × (slice_index bytes place ≤ 57)
  pub ones : (48 ≤ slice_index bytes (place + 1)) × (slice_index bytes (place + 1) ≤ 57)

-- the bytes have the form
pub record IsMinuteText (bytes : List ℕ) : Type 0 where
  pub century : IsPairAt bytes 0
  pub year : IsPairAt bytes 2
  pub after_year : slice_index bytes 4 ≡ 45
  pub month : IsPairAt bytes 5
  pub after_month : slice_index bytes 7 ≡ 45
  pub day : IsPairAt bytes 8
  pub after_day : slice_index bytes 10 ≡ 84
  pub hour : IsPairAt bytes 11
  pub after_hour : slice_index bytes 13 ≡ 58
  pub minute : IsPairAt bytes 14

-- the number of two digits
abbrev pub pair_number : List ℕ → ℕ → ℕ
pair_number bytes place = (slice_index bytes place - 48) * 10 + (slice_index bytes (place + 1) - 48)
