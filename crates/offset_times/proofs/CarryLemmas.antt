-- A clock that is moved from one offset to another by carries is the clock that its nanoseconds give.
use Rattle.std.proofs.Common.{◌≡◌, ℕ, ◌<◌, ◌≤◌, arith, sym, ◌∙◌, ap, ℤ, pos, ◌+ℤ◌, ◌-ℤ◌, ◌*ℤ◌, unsigned_abs, FitsSigned, w8, of_z, to_z, to_z-of_z}
use Rattle.calendar_values.specs.Clock.{IsClock, hour_of, minute_of, second_of}
use Rattle.calendar_values.specs.ClockLemmas.{clock_of_parts-of, AreTimeParts-of}
use Rattle.calendar_values.specs.Offsets.{IsOffset, offset_hours_of, offset_minutes_of, offset_seconds_of}
use Rattle.calendar_values.specs.OffsetPartLemmas.{seconds_of_parts-of, AreSignedOffsetParts-of}
use Rattle.calendar_values.specs.SignedArith.{signed_arith}
use Rattle.calendar_values.specs.WallClock.{wall_clock, wall_day, wall_time}
use Rattle.calendar_values.specs.WallClockLemmas.{wall_clock-parts}
use Rattle.offset_times.specs.Carries.{minutes_carried, hours_carried, days_carried, carried_second, carried_minute}
use Rattle.offset_times.specs.Carries.{carried_hour, carried_clock, IsWithin, CarriesWithin}
use Rattle.offset_times.specs.Local.{offset_nanos}

-- the second, the minute and the hour after the carries, and what each carries
pub record Carried (c : ℕ) (from to : ℤ) (hour minute second : ℕ) (days hours minutes : ℤ) : Type 0 where
  pub second_sum : pos (second_of c) +ℤ offset_seconds_of to -ℤ offset_seconds_of from ≡ minutes *ℤ pos 60 +ℤ pos second
  pub minute_sum : pos (minute_of c) +ℤ offset_minutes_of to -ℤ offset_minutes_of from +ℤ minutes ≡ hours *ℤ pos 60 +ℤ pos minute
  pub hour_sum : pos (hour_of c) +ℤ offset_hours_of to -ℤ offset_hours_of from +ℤ hours ≡ days *ℤ pos 24 +ℤ pos hour
  pub second_in : second < 60
  pub minute_in : minute < 60
  pub hour_in : hour < 24

-- the carries of the definitions are of this kind
pub Carried-of : (c : ℕ) (from to : ℤ) → Carried c from to (carried_hour c from to) (carried_minute c from to)
    (carried_second c from to) (days_carried c from to) (hours_carried c from to) (minutes_carried c from to)
unfolding minutes_carried hours_carried days_carried carried_second carried_minute carried_hour
Carried-of c from to = omega (arith, signed_arith)

-- numbers of a byte are the same where their bits are
same_of_bits : (x y : ℤ) → FitsSigned w8 x → FitsSigned w8 y → of_z w8 x ≡ of_z w8 y → x ≡ y
same_of_bits x y f g e = sym (to_z-of_z f) ∙ ap (to_z w8) e ∙ to_z-of_z g

-- where the seconds of both offsets are the same, the second stays, and it carries no minute
pub second-stays : (c : ℕ) (from to x y : ℤ) → x ≡ offset_seconds_of from → y ≡ offset_seconds_of to → unsigned_abs x ≤ 59 → unsigned_abs y ≤ 59 →
    of_z w8 x ≡ of_z w8 y → (carried_second c from to ≡ second_of c) × (minutes_carried c from to ≡ pos 0)
unfolding carried_second minutes_carried
second-stays c from to x y e f h k same =
    let seconds = same_of_bits x y (omega (arith, signed_arith)) (omega (arith, signed_arith)) same in
    omega (arith, signed_arith)

-- the carries keep the moment: the day and the clock, moved by the difference of the offsets
wall_clock-carried : (n : ℤ) (c : ℕ) (from to : ℤ) → wall_clock (n +ℤ days_carried c from to) (carried_clock c from to) ≡ wall_clock n c +ℤ
    offset_nanos (to -ℤ from)
unfolding carried_clock
wall_clock-carried n c from to =
    let k = Carried-of c from to in
    omega (arith, signed_arith, clock_of_parts-of c, seconds_of_parts-of to, seconds_of_parts-of from)

-- so the day and the clock that the carries give are what clocks at the other offset show
pub wall_clock-shown : (w n : ℤ) (c : ℕ) (from to : ℤ) → n ≡ wall_day w +ℤ days_carried (wall_time w) from to → c ≡ carried_clock (wall_time w) from to →
    wall_clock n c ≡ w +ℤ offset_nanos (to -ℤ from)
wall_clock-shown w n c from to e f =
    rw (e, f) (wall_clock-carried (wall_day w) (wall_time w) from to ∙ ap (λ (v : ℤ). v +ℤ offset_nanos (to -ℤ from)) (wall_clock-parts w))

-- how far the hours, the minutes and the seconds of two offsets lie apart
record Apart (h m s : ℕ) (from to : ℤ) : Type 0 where
  hours : IsWithin h (offset_hours_of to -ℤ offset_hours_of from)
  minutes : IsWithin m (offset_minutes_of to -ℤ offset_minutes_of from)
  seconds : IsWithin s (offset_seconds_of to -ℤ offset_seconds_of from)

within : (c : ℕ) (from to : ℤ) → IsClock c → Apart 25 59 59 from to → CarriesWithin 1 1 2 c from to
within c from to clock apart =
    let k = Carried-of c from to in
    let t = AreTimeParts-of c clock in
    let minutes : IsWithin 1 (minutes_carried c from to) = omega (arith, signed_arith) in
    let hours : IsWithin 1 (hours_carried c from to) = omega (arith, signed_arith) in
    record { minutes = minutes; hours = hours; days = omega (arith, signed_arith) }

pub CarriesWithin-to_utc : (c : ℕ) (from : ℤ) → IsClock c → IsOffset from → CarriesWithin 1 1 2 c from (pos 0)
unfolding offset_hours_of offset_minutes_of offset_seconds_of
CarriesWithin-to_utc c from clock p =
    let f = AreSignedOffsetParts-of from p in
    within c from (pos 0) clock (omega (arith, signed_arith, f.hours_in_range, f.minutes_in_range, f.seconds_in_range))

pub CarriesWithin-from_utc : (c : ℕ) (to : ℤ) → IsClock c → IsOffset to → CarriesWithin 1 1 2 c (pos 0) to
unfolding offset_hours_of offset_minutes_of offset_seconds_of
CarriesWithin-from_utc c to clock q =
    let t = AreSignedOffsetParts-of to q in
    within c (pos 0) to clock (omega (arith, signed_arith, t.hours_in_range, t.minutes_in_range, t.seconds_in_range))

pub IsWithin_abs : (n : ℕ) (z : ℤ) → unsigned_abs z ≤ n → IsWithin n z
IsWithin_abs n z h = omega (arith, signed_arith)
