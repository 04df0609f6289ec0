-- The reading of the front of a text, and of an offset alone.
use Rattle.std.specs.Prelude.{ℕ, ◌-◌, ℤ, Bool, nat_lt, List, length, if◌then◌else◌, Option, Some, None, Result, Ok, Err}
use Rattle.std.specs.Result.{result_map_both}
use Rattle.offset_times.specs.Local.{Local}
use Rattle.rfc3339.specs.Meaning.{meaning, offset_of}
use Rattle.rfc3339.specs.Reading.{◌>>=◌, front_at, zone_at, with_no_rest}
use Rattle.rfc3339.specs.declared.parts.Parts.{Parts}
use Rattle.rfc3339.specs.declared.refusal.Component.TheVariants.{OffsetHour, OffsetMinute}
use Rattle.rfc3339.specs.declared.refusal.TextRefusal.{TextRefusal}
use Rattle.rfc3339.specs.declared.refusal.TextRefusal.TheVariants.{Syntax, OutOfRange}

-- the value with the number of bytes that spell it, or the error
abbrev pub with_length : ℕ → Result Local TextRefusal → Result (Local × ℕ) TextRefusal
with_length n r = result_map_both (λ at. (at, n)) (λ refusal. refusal) r

-- the meaning of the numbers in front, and the number of bytes that spell them
abbrev pub front_meaning : List ℕ → Option (Parts × List ℕ) → Result (Local × ℕ) TextRefusal
front_meaning text None = Err Syntax
front_meaning text (Some (p, rest)) = with_length (length text - length rest) (meaning p)

-- the reading of the front of a text: a wall clock at an offset, and the number of its bytes
unfoldable pub front_reading_of : List ℕ → Result (Local × ℕ) TextRefusal
front_reading_of text = front_meaning text (front_at text)

-- the seconds of an offset, or the first of its numbers that is out of range
abbrev pub offset_of_numbers : Bool → ℕ → ℕ → Result ℤ TextRefusal
offset_of_numbers is_west hour minute =
    if nat_lt 23 hour then Err (OutOfRange OffsetHour)
    else (if nat_lt 59 minute then Err (OutOfRange OffsetMinute)
    else Ok (offset_of is_west hour minute))

-- the same of the numbers of a text, or a syntax error if it has none
abbrev pub offset_meaning : Option (Bool × ℕ × ℕ) → Result ℤ TextRefusal
offset_meaning None = Err Syntax
offset_meaning (Some (is_west, hour, minute)) = offset_of_numbers is_west hour minute

-- the sign, the hours and the minutes of a text that has no more
abbrev pub offset_numbers : List ℕ → Option (Bool × ℕ × ℕ)
offset_numbers text = zone_at text >>= λ read. with_no_rest read.0 read.1

-- the reading of a text of an offset: its seconds, or an error
unfoldable pub offset_reading_of : List ℕ → Result ℤ TextRefusal
offset_reading_of text = offset_meaning (offset_numbers text)
