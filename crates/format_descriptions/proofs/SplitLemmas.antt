-- The seconds of an instant, and the nanoseconds past them.
use Rattle.std.proofs.Common.{◌≡◌, ℕ, ◌/◌, false, refl, Ok, arith, ℤ, pos, ◌+ℤ◌, ◌*ℤ◌, ◌≤ℤ◌}
use Rattle.std.specs.Prelude.{codes}
use Rattle.std.proofs.lemmas.Int.{ints}
use Rattle.calendar_values.specs.Outcomes.{Gives}
use Rattle.calendar_values.specs.Range.{is_outside}
use Rattle.calendar_values.specs.SignedArith.{signed_arith}
use Rattle.calendar_values.specs.WallClock.{IsInstant, first_wall_clock, last_wall_clock, unix_seconds_of, wall_time}
use Rattle.stamp_times.specs.Instants.{instant_of_parts, unix_nanosecond_of, unix_milliseconds_of, unix_microseconds_of}
use Rattle.utc_times.specs.UnixTime.{instant_or_refusal, instant_outcome}

pub whole_milliseconds : (i s : ℤ) (n : ℕ) → s ≡ unix_seconds_of i → n ≡ unix_nanosecond_of i
    → s *ℤ pos 1_000 +ℤ pos (n / 1_000_000) ≡ unix_milliseconds_of i
unfolding wall_time
whole_milliseconds i s n e f = omega (arith, signed_arith)

pub whole_microseconds : (i s : ℤ) (n : ℕ) → s ≡ unix_seconds_of i → n ≡ unix_nanosecond_of i
    → s *ℤ pos 1_000_000 +ℤ pos (n / 1_000) ≡ unix_microseconds_of i
unfolding wall_time
whole_microseconds i s n e f = omega (arith, signed_arith)

-- the instant of both is the same
pub instant_again : (at i s : ℤ) (n : ℕ) → s ≡ unix_seconds_of i → n ≡ unix_nanosecond_of i → at ≡ instant_of_parts s n → at ≡ i
unfolding wall_time
instant_again at i s n e f g = omega (arith, signed_arith)

inside_range : (first last n : ℤ) → first ≤ℤ n → n ≤ℤ last → is_outside first last n ≡ false
inside_range first last n low high = grind (arith, ints)

pub Gives-instant : (at i : ℤ) → IsInstant i → at ≡ i → Gives (Ok at) (instant_outcome (codes "nanoseconds") i)
unfolding instant_or_refusal
Gives-instant at i h e =
    let inside = inside_range first_wall_clock last_wall_clock i h.0 h.1 in
    record { value = (h, e); refused = tt; equation = rw (inside, e) refl }
