-- What answers lead to, one after another, where each is a value.
use Rattle.std.proofs.Common.{◌≡◌, ◌∙◌, ap, subst, refl, ℕ, ℤ, Result, Ok}
use Rattle.calendar_values.specs.Clock.{AreTimeParts, clock_of_parts}
use Rattle.calendar_values.specs.ClockLemmas.{IsClock-clock_of_parts, hour_of-clock_of_parts, minute_of-clock_of_parts, second_of-clock_of_parts}
use Rattle.calendar_values.specs.ClockLemmas.{nanosecond_of-clock_of_parts}
use Rattle.calendar_values.specs.Constructors.{clock_time_nano}
use Rattle.calendar_values.specs.Dates.{ShowsDate}
use Rattle.calendar_values.specs.Offsets.{offset_of_seconds}
use Rattle.calendar_values.specs.WallClock.{wall_clock}
use Rattle.calendar_values.specs.WallClockLemmas.{wall_day-wall_clock, wall_time-wall_clock}
use Rattle.offset_times.specs.Local.{Local, instant_of, shown_at, wall_at}
use Rattle.muxandu_c.specs.Answers.{and_then, as_refused}
use Rattle.muxandu_c.specs.Values.{date_value, date_time_value, date_time_parts, as_date_time, date_time_to_offset}
use Rattle.muxandu_c.specs.Values.{instant_if_any, local_if_any, shown_at_offset}
use Rattle.muxandu_c.specs.Values.{duration_value}
use Rattle.muxandu_c.specs.declared.refused.Refused.{Refused}
use Rattle.muxandu_c.specs.declared.values.MuxanduDateTime.{MuxanduDateTime}
use Rattle.muxandu_c.specs.declared.values.MuxanduDuration.{MuxanduDuration}

-- a value leads on
pub after : {A B : Type 0} (answer : Result A Refused) (next : A → Result B Refused) (x : A) → Ok x ≡ answer → next x ≡ and_then answer next
after {A} {B} answer next x e = subst (λ (r : Result A Refused). next x ≡ and_then r next) e refl

pub date_time_value-of : (v : MuxanduDateTime) (year seconds n : ℤ) (c : ℕ) (o : ℤ) (at : Local) → year ≡ v.year → seconds ≡ v.offset_seconds
    → Ok n ≡ date_value year v.month v.day → Ok c ≡ clock_time_nano v.hour v.minute v.second v.nanosecond
    → Ok o ≡ as_refused (offset_of_seconds seconds) → at ≡ wall_at (wall_clock n c) o → Ok at ≡ date_time_value v
date_time_value-of v year seconds n c o at y s date time offset made =
    let date' = rw y at date in
    let offset' = rw s at offset in
    ap (λ (l : Local). Ok l) made
    ∙ after (as_refused (offset_of_seconds v.offset_seconds)) (λ (o : ℤ). Ok (wall_at (wall_clock n c) o)) o offset'
    ∙ after (as_refused (clock_time_nano v.hour v.minute v.second v.nanosecond))
    (λ (c : ℕ). and_then (as_refused (offset_of_seconds v.offset_seconds)) (λ (o : ℤ). Ok (wall_at (wall_clock n c) o))) c (ap as_refused time)
    ∙ after (date_value v.year v.month v.day)
    (λ (n : ℤ). and_then (as_refused (clock_time_nano v.hour v.minute v.second v.nanosecond))
    (λ (c : ℕ). and_then (as_refused (offset_of_seconds v.offset_seconds)) (λ (o : ℤ). Ok (wall_at (wall_clock n c) o)))) n date'

-- its parts are those that were read
pub date_time_parts-of : (v : MuxanduDateTime) (year seconds n : ℤ) (c : ℕ) (o : ℤ) (at : Local) → year ≡ v.year → seconds ≡ v.offset_seconds
    → ShowsDate year v.month v.day n → AreTimeParts v.hour v.minute v.second v.nanosecond → c ≡ clock_of_parts v.hour v.minute v.second v.nanosecond
    → o ≡ seconds → at ≡ wall_at (wall_clock n c) o → v ≡ date_time_parts at
date_time_parts-of v year seconds n c o at y s date parts time offset made =
    let clock = IsClock-clock_of_parts v.hour v.minute v.second v.nanosecond parts in
    rw (made, time, wall_day-wall_clock n _ clock, wall_time-wall_clock n _ clock)
    (rw (date.month, date.day, date.year, offset, y, s)
    (rw (hour_of-clock_of_parts v.hour v.minute v.second v.nanosecond parts, minute_of-clock_of_parts v.hour v.minute v.second v.nanosecond parts)
    (rw (second_of-clock_of_parts v.hour v.minute v.second v.nanosecond parts, nanosecond_of-clock_of_parts v.hour v.minute v.second v.nanosecond parts) refl)))

pub date_time_to_offset-of : (v : MuxanduDateTime) (seconds seconds' : ℤ) (at : Local) (o o' : ℤ) (answer : Result MuxanduDateTime Refused)
    → answer ≡ as_date_time (local_if_any (shown_at (instant_of at) o') o') → o' ≡ o → Ok at ≡ date_time_value v
    → Ok o ≡ as_refused (offset_of_seconds seconds') → seconds' ≡ seconds → answer ≡ date_time_to_offset v seconds
date_time_to_offset-of v seconds seconds' at o o' answer made same date_time offset s =
    let offset' = rw s at offset in
    made ∙ ap (λ (z : ℤ). as_date_time (local_if_any (shown_at (instant_of at) z) z)) same
    ∙ ap as_date_time (after (as_refused (offset_of_seconds seconds)) (λ (z : ℤ). local_if_any (shown_at (instant_of at) z) z) o offset')
    ∙ ap as_date_time (after (date_time_value v) (λ (l : Local). shown_at_offset (instant_of l) seconds) at date_time)

-- a date-time moved by a duration, forward or back
pub date_time_moved-of : (move : ℤ → ℤ → ℤ) (v parts : MuxanduDateTime) (w : MuxanduDuration) (at : Local) (d from wall seconds : ℤ)
    → parts ≡ date_time_parts (wall_at wall seconds) → Ok wall ≡ instant_if_any (move from d) → from ≡ at.wall → at.offset ≡ seconds
    → Ok at ≡ date_time_value v → Ok d ≡ duration_value w
    → Ok parts ≡ as_date_time (and_then (date_time_value v) (λ l. and_then (duration_value w) (λ e. local_if_any (move l.wall e) l.offset)))
date_time_moved-of move v parts w at d from wall seconds made sum start offset date_time duration =
    let sum' = rw start at sum in
    let made' = rw (← offset) at made in
    ap (λ (p : MuxanduDateTime). Ok p) made'
    ∙ ap as_date_time (after (instant_if_any (move at.wall d)) (λ (z : ℤ). Ok (wall_at z at.offset)) wall sum'
    ∙ after (duration_value w) (λ (e : ℤ). local_if_any (move at.wall e) at.offset) d duration
    ∙ after (date_time_value v) (λ (l : Local). and_then (duration_value w) (λ (e : ℤ). local_if_any (move l.wall e) l.offset)) at date_time)
