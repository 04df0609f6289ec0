-- An offset from UTC is a whole number of seconds, from -25:59:59 to 25:59:59. Its hours, minutes and seconds have one sign.
use Rattle.std.specs.Prelude.{◌≤◌, ◌⊎◌, if◌then◌else◌, ℤ, pos, neg_ℤ, ◌+ℤ◌, ◌*ℤ◌, ◌≤ℤ◌, int_lt, int_div, int_rem, unsigned_abs, codes, Result, Ok, Err, ◌||◌}
use Rattle.calendar_values.specs.Outcomes.{Outcome}
use Rattle.calendar_values.specs.Range.{is_outside}
use Rattle.calendar_values.specs.Refusals.{Refusal, outright_refusal}

-- the least offset and the greatest
abbrev pub least_offset : ℤ
least_offset = neg_ℤ (pos 93_599)

abbrev pub greatest_offset : ℤ
greatest_offset = pos 93_599

-- an offset of the range
abbrev pub IsOffset : ℤ → Type 0
IsOffset o = (least_offset ≤ℤ o) × (o ≤ℤ greatest_offset)

-- the seconds of h hours, m minutes and s seconds
abbrev pub seconds_of_parts : ℤ → ℤ → ℤ → ℤ
seconds_of_parts h m s = ((h *ℤ pos 3_600) +ℤ (m *ℤ pos 60)) +ℤ s

-- the whole hours, rounded towards zero
unfoldable pub offset_hours_of : ℤ → ℤ
offset_hours_of o = int_div o (pos 3_600)

-- the minutes past the hour
unfoldable pub offset_minutes_of : ℤ → ℤ
offset_minutes_of o = int_rem (int_div o (pos 60)) (pos 60)

-- the seconds past the minute
unfoldable pub offset_seconds_of : ℤ → ℤ
offset_seconds_of o = int_rem o (pos 60)

-- hours, minutes and seconds in their ranges, of one sign
pub record AreSignedOffsetParts (h m s : ℤ) : Type 0 where
  pub hours_in_range : unsigned_abs h ≤ 25
  pub minutes_in_range : unsigned_abs m ≤ 59
  pub seconds_in_range : unsigned_abs s ≤ 59
  pub one_sign : ((pos 0 ≤ℤ h) × (pos 0 ≤ℤ m) × (pos 0 ≤ℤ s)) ⊎ ((h ≤ℤ pos 0) × (m ≤ℤ pos 0) × (s ≤ℤ pos 0))

-- a part with the sign of a greater part; it keeps its own sign if the greater part is 0
abbrev pub with_sign_of : ℤ → ℤ → ℤ
with_sign_of greater part =
    if int_lt greater (pos 0) then neg_ℤ (pos (unsigned_abs part))
    else (if int_lt (pos 0) greater then pos (unsigned_abs part) else part)

-- hours, minutes and seconds that make an offset
abbrev pub AreOffsetParts : ℤ → ℤ → ℤ → Type 0
AreOffsetParts h m s = (unsigned_abs h ≤ 25) × (unsigned_abs m ≤ 59) × (unsigned_abs s ≤ 59)

-- the error for hours, minutes and seconds: it names the hours if they are out of range, or else the minutes, or else the seconds
abbrev pub offset_refusal : ℤ → ℤ → Refusal
offset_refusal h m =
    if is_outside (neg_ℤ (pos 25)) (pos 25) h then outright_refusal (codes "hours")
    else (if is_outside (neg_ℤ (pos 59)) (pos 59) m then outright_refusal (codes "minutes")
    else outright_refusal (codes "seconds"))

-- the seconds of hours, minutes and seconds: the smaller parts take the sign of the hours, or of the minutes if the hours are 0
abbrev pub seconds_of_signed_parts : ℤ → ℤ → ℤ → ℤ
seconds_of_signed_parts h m s =
    seconds_of_parts h (with_sign_of h m) (with_sign_of h (with_sign_of m s))

-- the offset of hours, minutes and seconds, or the error for one of them
unfoldable pub offset_of_parts : ℤ → ℤ → ℤ → Result ℤ Refusal
offset_of_parts h m s =
    if is_outside (neg_ℤ (pos 25)) (pos 25) h || (is_outside (neg_ℤ (pos 59)) (pos 59) m || is_outside (neg_ℤ (pos 59)) (pos 59) s)
    then Err (offset_refusal h m)
    else Ok (seconds_of_signed_parts h m s)

-- the outcome of hours, minutes and seconds
abbrev pub offset_outcome : ℤ → ℤ → ℤ → Outcome ℤ
offset_outcome h m s = record {
  fits = AreOffsetParts h m s;
  value = seconds_of_signed_parts h m s;
  refusal = offset_refusal h m;
  answer = offset_of_parts h m s;
}

-- the offset of a number of seconds, or the error for it
unfoldable pub offset_of_seconds : ℤ → Result ℤ Refusal
offset_of_seconds o =
    if is_outside least_offset greatest_offset o then Err (outright_refusal (codes "offset_seconds")) else Ok o

-- the outcome of a number of seconds
abbrev pub offset_seconds_outcome : ℤ → Outcome ℤ
offset_seconds_outcome o = record {
  fits = IsOffset o;
  value = o;
  refusal = outright_refusal (codes "offset_seconds");
  answer = offset_of_seconds o;
}
