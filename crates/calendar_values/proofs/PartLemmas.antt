-- The names of parts are ASCII, and short.
use Rattle.std.proofs.Common.{◌≡◌, ◌≤◌, ◌&&◌, ℕ, suc, zero, Bool, true, false, List, [], ◌∷◌, length, nat_lt, refl, arith}
use Rattle.std.proofs.lemmas.Bool.Decides.{nat_tests}
use Rattle.std.specs.List.{list_all}
use Rattle.std.specs.Prelude.{IsAscii, codes}
use Rattle.calendar_values.specs.Parts.{part_name}
use Rattle.calendar_values.specs.declared.component_range.Part.{Part}
use Rattle.calendar_values.specs.declared.component_range.Part.TheVariants.{Year, Month, Day, Ordinal, Week, JulianDay, Hour, Minute, Second, Millisecond}
use Rattle.calendar_values.specs.declared.component_range.Part.TheVariants.{Microsecond, Nanosecond, Hours, Minutes, Seconds, OffsetSeconds, Timestamp}
use Rattle.calendar_values.specs.declared.component_range.Part.TheVariants.{Milliseconds, Microseconds, Nanoseconds}

both : (a b : Bool) → (a && b) ≡ true → (a ≡ true) × (b ≡ true)
both true b e = (refl, e)
both false b e = absurd cc

ascii : (bytes : List ℕ) → list_all (λ byte. nat_lt byte 128) bytes ≡ true → IsAscii bytes
ascii [] e i = omega arith
ascii (first ∷ rest) e zero = grind (arith, nat_tests, both (nat_lt first 128) _ e)
ascii (first ∷ rest) e (suc i) = ascii rest (both (nat_lt first 128) _ e).1 i

short : (bytes : List ℕ) → list_all (λ byte. nat_lt byte 128) bytes ≡ true → nat_lt (length bytes) 15 ≡ true → IsAscii bytes × (length bytes ≤ 14)
short bytes e shorter = (ascii bytes e, grind (arith, nat_tests))

pub part_name-short : (part : Part) → IsAscii (part_name part) × (length (part_name part) ≤ 14)
part_name-short Year = short (codes "year") refl refl
part_name-short Month = short (codes "month") refl refl
part_name-short Day = short (codes "day") refl refl
part_name-short Ordinal = short (codes "ordinal") refl refl
part_name-short Week = short (codes "week") refl refl
part_name-short JulianDay = short (codes "julian_day") refl refl
part_name-short Hour = short (codes "hour") refl refl
part_name-short Minute = short (codes "minute") refl refl
part_name-short Second = short (codes "second") refl refl
part_name-short Millisecond = short (codes "millisecond") refl refl
part_name-short Microsecond = short (codes "microsecond") refl refl
part_name-short Nanosecond = short (codes "nanosecond") refl refl
part_name-short Hours = short (codes "hours") refl refl
part_name-short Minutes = short (codes "minutes") refl refl
part_name-short Seconds = short (codes "seconds") refl refl
part_name-short OffsetSeconds = short (codes "offset_seconds") refl refl
part_name-short Timestamp = short (codes "timestamp") refl refl
part_name-short Milliseconds = short (codes "milliseconds") refl refl
part_name-short Microseconds = short (codes "microseconds") refl refl
part_name-short Nanoseconds = short (codes "nanoseconds") refl refl
