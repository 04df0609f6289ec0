-- The offset that parts name: each part that is known is that of it, and the finer parts that are not known are 0.
use Rattle.std.specs.Prelude.{◌≡◌, ◌⊎◌, ℕ, ◌+◌, ◌*◌, ◌/◌, ◌%◌, Bool, false, if◌then◌else◌, nat_lt, int_lt, ℤ, pos, unsigned_abs, IfSome, Option, Some, None}
use Rattle.std.specs.Prelude.{Result, Ok, Err, is_some}
use Rattle.format_descriptions.specs.ClockValues.{or_zero}
use Rattle.format_descriptions.specs.PartTests.{signed}
use Rattle.format_descriptions.specs.declared.parts.Parts.{Parts}
use Rattle.format_descriptions.specs.declared.value_refusal.Field.TheVariants.{OffsetHour, OffsetMinute, OffsetSecond}
use Rattle.format_descriptions.specs.declared.value_refusal.ValueRefusal.{ValueRefusal}
use Rattle.format_descriptions.specs.declared.value_refusal.ValueRefusal.TheVariants.{Missing, Wrong}

-- a choice that is false where it is not known
abbrev pub or_false : Option Bool → Bool
or_false None = false
or_false (Some b) = b

-- each part of an offset that is known is that of this one; the offset 0 has either sign
pub record HasOffsetParts (p : Parts) (o : ℤ) : Type 0 where
  pub hour : IfSome p.offset_hour (λ known. known ≡ unsigned_abs o / 3_600)
  pub minute : or_zero p.offset_minute ≡ unsigned_abs o / 60 % 60
  pub second : or_zero p.offset_second ≡ unsigned_abs o % 60
  pub sign : (or_false p.is_west ≡ int_lt o (pos 0)) ⊎ (o ≡ pos 0)

-- the parts have the hours of an offset
abbrev pub tells_offset : Parts → Bool
tells_offset p = is_some p.offset_hour

-- the offset of a number of hours, or the first part that is out of range
unfoldable pub offset_at : Parts → ℕ → Result ℤ ValueRefusal
offset_at p h =
    if nat_lt 25 h then Err (Wrong OffsetHour)
    else (if nat_lt 59 (or_zero p.offset_minute) then Err (Wrong OffsetMinute)
    else (if nat_lt 59 (or_zero p.offset_second) then Err (Wrong OffsetSecond)
    else Ok (signed (or_false p.is_west) (h * 3_600 + or_zero p.offset_minute * 60 + or_zero p.offset_second))))

-- the same, if the hours are known
abbrev pub offset_by : Parts → Option ℕ → Result ℤ ValueRefusal
offset_by p None = Err (Missing OffsetHour)
offset_by p (Some h) = offset_at p h

-- the offset that the parts name, or the error
unfoldable pub offset_of_parts : Parts → Result ℤ ValueRefusal
offset_of_parts p = offset_by p p.offset_hour
