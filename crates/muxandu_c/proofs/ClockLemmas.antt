-- Which part of a time of day is refused, of numbers of any size.
use Rattle.std.proofs.Common.{◌≡◌, ◌<◌, ◌≤◌, ℕ, true, false, nat_lt, Err, refl, arith}
use Rattle.std.proofs.lemmas.Bool.Decides.{nat_tests}
use Rattle.calendar_values.specs.Constructors.{clock_with}
use Rattle.muxandu_c.specs.Clocks.{time_value}
use Rattle.muxandu_c.specs.declared.refused.Refused.TheVariants as refused

is_above : (limit part : ℕ) → limit < part → nat_lt limit part ≡ true
is_above limit part over = grind (arith, nat_tests)

is_within : (limit part : ℕ) → part ≤ limit → nat_lt limit part ≡ false
is_within limit part within = grind (arith, nat_tests)

pub time_value-hour : (h m s n : ℕ) → 23 < h → Err refused.Hour ≡ time_value h m s n
unfolding clock_with
time_value-hour h m s n over = rw (is_above 23 h over) refl

pub time_value-minute : (h m s n : ℕ) → h ≤ 23 → 59 < m → Err refused.Minute ≡ time_value h m s n
unfolding clock_with
time_value-minute h m s n hour over = rw (is_within 23 h hour, is_above 59 m over) refl

pub time_value-second : (h m s n : ℕ) → h ≤ 23 → m ≤ 59 → 59 < s → Err refused.Second ≡ time_value h m s n
unfolding clock_with
time_value-second h m s n hour minute over = rw (is_within 23 h hour, is_within 59 m minute, is_above 59 s over) refl

-- which part is refused
pub ruleset refused_parts = (time_value-hour, time_value-minute, time_value-second)
