-- Moments so far from the ends of the range that clocks at each offset can show their instants: what each single call gives.
use Rattle.std.proofs.Common.{◌≡◌, ◌≢◌, inl, inr, ℕ, ◌-◌, ◌%◌, ◌<◌, ◌≤◌, nat_lt, Result, Ok, refl, sym, ap, ◌∙◌, arith, false}
use Rattle.std.proofs.Common.{ℤ, pos, negsuc, neg_ℤ, ◌+ℤ◌, ◌-ℤ◌, ◌*ℤ◌, ◌≤ℤ◌, ◌<ℤ◌, unsigned_abs, FitsSigned, w32, w64, to_z, of_z}
use Rattle.std.proofs.lemmas.Bool.Decides.{nat_tests}
use Rattle.std.proofs.lemmas.Int.{ints, by_lt_z}
use Rattle.std.specs.Int.{int_div_euclid, int_rem_euclid}
use Rattle.std.specs.Ordering.{int_cmp}
use Rattle.std.specs.declared.cmp.Ordering.{Ordering}
use Rattle.std.specs.declared.cmp.Ordering.TheVariants.{Less, Equal, Greater}
use Rattle.calendar_values.specs.Clock.{nanos_per_day, nanos_per_hour, nanos_per_minute, nanos_per_second, nanos_per_millisecond, nanos_per_microsecond}
use Rattle.calendar_values.specs.Durations.{duration_of_parts, least_duration, greatest_duration, IsDurationParts}
use Rattle.calendar_values.specs.Durations.{whole_seconds_of, subsec_nanoseconds_of}
use Rattle.calendar_values.specs.DurationPartLemmas.{whole_seconds_of-parts, subsec_nanoseconds_of-parts}
use Rattle.calendar_values.specs.Offsets.{IsOffset}
use Rattle.calendar_values.specs.OrderLemmas.{int_cmp_agrees}
use Rattle.calendar_values.specs.SignedArith.{signed_arith, signed_casts}
use Rattle.calendar_values.specs.WallClock.{unix_seconds_of, wall_time, first_wall_clock, last_wall_clock}
use Rattle.plain_times.specs.Truncations.{wall_multiple_below}
use Rattle.utc_times.specs.UnixTime.{instant_of_second}
use Rattle.offset_times.specs.Local.{shown_at, instant_of, local_multiple_below, wall_at}
use Rattle.stamp_times.specs.Instants.{instant_of_parts, unix_nanosecond_of}
use Rattle.stamp_times.specs.Refusals.{timestamp_of_parts}
use Rattle.stamp_times.specs.TimestampLemmas.{unix_seconds_of-parts, unix_nanosecond_of-parts}
use Rattle.muxandu_c.specs.InsideMoments.{IsInside, IsShort, instant_of_moment, first_inside, last_inside, rounded_down, with_nanoseconds_below}
use Rattle.muxandu_c.specs.Moments.{moment_value, instant_at, moment_parts, moment_add, moment_subtract, moment_compare, moment_difference}
use Rattle.muxandu_c.specs.Moments.{moment_truncate}
use Rattle.muxandu_c.specs.Values.{duration_value, duration_parts, instant_if_any, sign_of, unit_numbered, unit_nanos}
use Rattle.muxandu_c.specs.declared.moments.MuxanduMoment.{MuxanduMoment}
use Rattle.muxandu_c.specs.declared.refused.Refused.{Refused}
use Rattle.muxandu_c.specs.declared.unit.Unit.{Unit}
use Rattle.muxandu_c.specs.declared.unit.Unit.TheVariants as unit
use Rattle.muxandu_c.specs.declared.values.MuxanduDuration.{MuxanduDuration}
use Rattle.muxandu_c.proofs.SecondBatchLemmas.{inside, offset-inside}

-- the instant is in the range, and so is what clocks at each offset show

instant-inside : (i : ℤ) → first_inside ≤ℤ unix_seconds_of i → unix_seconds_of i ≤ℤ last_inside → instant_if_any i ≡ Ok i
instant-inside i low high =
    let within = inside first_wall_clock last_wall_clock i (omega (arith, signed_arith)) (omega (arith, signed_arith)) in
    rw within refl

shown-inside : (i o : ℤ) → first_inside ≤ℤ unix_seconds_of i → unix_seconds_of i ≤ℤ last_inside → IsOffset o →
    instant_if_any (shown_at i o) ≡ Ok (shown_at i o)
shown-inside i o low high h =
    let within = inside first_wall_clock last_wall_clock (shown_at i o) (omega (arith, signed_arith, h.0, h.1)) (omega (arith, signed_arith, h.0, h.1)) in
    rw within refl

at-inside : (i o : ℤ) → first_inside ≤ℤ unix_seconds_of i → unix_seconds_of i ≤ℤ last_inside → IsOffset o → instant_at o i ≡ Ok i
at-inside i o low high h = rw (offset-inside o h, shown-inside i o low high h) refl

nanoseconds-inside : (n : ℕ) → n ≤ 999_999_999 → nat_lt 999_999_999 n ≡ false
nanoseconds-inside n h = grind (arith, nat_tests)

timestamp-inside : (s : ℤ) (n : ℕ) → first_inside ≤ℤ s → s ≤ℤ last_inside → n ≤ 999_999_999 → timestamp_of_parts s n ≡ Ok (instant_of_parts s n)
unfolding timestamp_of_parts
timestamp-inside s n low high h =
    let within = inside first_wall_clock last_wall_clock (instant_of_second s) (omega (arith, signed_arith)) (omega (arith, signed_arith)) in
    rw (within, nanoseconds-inside n h) refl

seconds-of : (v : MuxanduMoment) → IsInside v → unix_seconds_of (instant_of_moment v) ≡ v.seconds
seconds-of v h = unix_seconds_of-parts v.seconds v.nanoseconds (omega (arith, h.nanoseconds))

first-of : (v : MuxanduMoment) → IsInside v → first_inside ≤ℤ unix_seconds_of (instant_of_moment v)
first-of v h = rw (seconds-of v h) h.first

last-of : (v : MuxanduMoment) → IsInside v → unix_seconds_of (instant_of_moment v) ≤ℤ last_inside
last-of v h = rw (seconds-of v h) h.last

pub moment_value-inside : (v : MuxanduMoment) → IsInside v → moment_value v ≡ Ok (instant_of_moment v)
moment_value-inside v h =
    rw (timestamp-inside v.seconds v.nanoseconds h.first h.last h.nanoseconds)
    (at-inside (instant_of_moment v) v.offset_seconds (first-of v h) (last-of v h) h.offset)

-- the order

pub apart-nanoseconds : (s t : ℤ) (n m : ℕ) → s ≡ t → int_cmp (pos n -ℤ pos m) (pos 0) ≡ int_cmp (instant_of_parts s n) (instant_of_parts t m)
apart-nanoseconds s t n m same =
    int_cmp_agrees (pos n -ℤ pos m) (pos 0) (instant_of_parts s n) (instant_of_parts t m)
    (λ lt. omega (arith, signed_arith)) (λ gt. omega (arith, signed_arith)) (λ e. omega (arith, signed_arith))

pub apart-seconds : (s t : ℤ) (n m : ℕ) → s ≢ t → n ≤ 999_999_999 → m ≤ 999_999_999 →
    int_cmp (s -ℤ t) (pos 0) ≡ int_cmp (instant_of_parts s n) (instant_of_parts t m)
apart-seconds s t n m other low high =
    int_cmp_agrees (s -ℤ t) (pos 0) (instant_of_parts s n) (instant_of_parts t m)
    (λ lt. omega (arith, signed_arith)) (λ gt. omega (arith, signed_arith)) (λ e. elim (other (omega (arith, signed_arith))) [ ])

pub ruleset signs_apart = (apart-nanoseconds, apart-seconds)

pub sign-less : (x : ℤ) → x <ℤ pos 0 → neg_ℤ (pos 1) ≡ sign_of (int_cmp x (pos 0))
sign-less x h = grind (arith, ints)

pub sign-more : (x : ℤ) → pos 0 <ℤ x → pos 1 ≡ sign_of (int_cmp x (pos 0))
sign-more x h = grind (arith, ints)

pub sign-equal : (x : ℤ) → pos 0 ≤ℤ x → x ≤ℤ pos 0 → pos 0 ≡ sign_of (int_cmp x (pos 0))
sign-equal x h k = grind (arith, ints)

pub ruleset signs = (sign-less, sign-more, sign-equal)

pub moment_compare-inside : (v w : MuxanduMoment) (r : ℤ) → IsInside v → IsInside w →
    r ≡ sign_of (int_cmp (instant_of_moment v) (instant_of_moment w)) → Ok r ≡ moment_compare v w
moment_compare-inside v w r h k e = rw (moment_value-inside v h, moment_value-inside w k, e) refl

-- the difference

-- the parts of a duration that have one sign
pub difference-parts : (s n d : ℤ) → IsDurationParts s n → duration_of_parts s n ≡ d →
    ◌≡◌ {A = MuxanduDuration} (record { seconds = s; nanoseconds = n }) (duration_parts d)
difference-parts s n d h e =
    let seconds : whole_seconds_of d ≡ s = rw (← e) (whole_seconds_of-parts s n h) in
    let nanoseconds : subsec_nanoseconds_of d ≡ n = rw (← e) (subsec_nanoseconds_of-parts s n h) in
    rw (seconds, nanoseconds) refl

pub moment_difference-inside : (v w : MuxanduMoment) (r : MuxanduDuration) → IsInside v → IsInside w →
    r ≡ duration_parts (instant_of_moment v -ℤ instant_of_moment w) → Ok r ≡ moment_difference v w
moment_difference-inside v w r h k e = rw (moment_value-inside v h, moment_value-inside w k, e) refl

-- a sum

duration-inside : (w : MuxanduDuration) → IsShort w.seconds w.nanoseconds → duration_value w ≡ Ok (duration_of_parts w.seconds w.nanoseconds)
duration-inside w h =
    let d = duration_of_parts w.seconds w.nanoseconds in
    let low : least_duration ≤ℤ d = omega (arith, signed_arith, h.least, h.least_part) in
    let high : d ≤ℤ greatest_duration = omega (arith, signed_arith, h.most, h.most_part) in
    let within = inside least_duration greatest_duration d low high in
    rw within refl

pub moment_add-inside : (v sum : MuxanduMoment) (w : MuxanduDuration) → IsInside v → IsShort w.seconds w.nanoseconds →
    sum ≡ moment_parts v.offset_seconds (instant_of_moment v +ℤ duration_of_parts w.seconds w.nanoseconds) → IsInside sum →
    Ok sum ≡ moment_add v w
moment_add-inside v sum w h k e inside_sum =
    let i = instant_of_moment v +ℤ duration_of_parts w.seconds w.nanoseconds in
    let first : first_inside ≤ℤ unix_seconds_of i = rw e at inside_sum.first in
    let last : unix_seconds_of i ≤ℤ last_inside = rw e at inside_sum.last in
    rw (
      moment_value-inside v h,
      duration-inside w k,
      instant-inside i first last,
      at-inside i v.offset_seconds first last h.offset,
      e,
    ) refl

negative : (i s n : ℤ) → i +ℤ duration_of_parts (pos 0 -ℤ s) (pos 0 -ℤ n) ≡ i -ℤ duration_of_parts s n
negative i s n = omega (arith, signed_arith)

pub moment_subtract-inside : (v less : MuxanduMoment) (w : MuxanduDuration) → IsInside v → IsShort w.seconds w.nanoseconds →
    less ≡ moment_parts v.offset_seconds (instant_of_moment v +ℤ duration_of_parts (pos 0 -ℤ w.seconds) (pos 0 -ℤ w.nanoseconds)) → IsInside less →
    Ok less ≡ moment_subtract v w
moment_subtract-inside v less w h k e inside_less =
    let i = instant_of_moment v -ℤ duration_of_parts w.seconds w.nanoseconds in
    let back = negative (instant_of_moment v) w.seconds w.nanoseconds in
    let is : less ≡ moment_parts v.offset_seconds i = e ∙ ap (moment_parts v.offset_seconds) back in
    let first : first_inside ≤ℤ unix_seconds_of i = rw is at inside_less.first in
    let last : unix_seconds_of i ≤ℤ last_inside = rw is at inside_less.last in
    rw (
      moment_value-inside v h,
      duration-inside w k,
      instant-inside i first last,
      at-inside i v.offset_seconds first last h.offset,
      is,
    ) refl

-- what the calls give
pub ruleset inside_calls = (moment_compare-inside, moment_difference-inside, moment_add-inside, moment_subtract-inside)

-- a moment rounded down

same_moment : {s t o : ℤ} {n m : ℕ} → s ≡ t → n ≡ m →
    ◌≡◌ {A = MuxanduMoment} (record { seconds = s; nanoseconds = n; offset_seconds = o }) (record { seconds = t; nanoseconds = m; offset_seconds = o })
same_moment a b = cc

second-of : (t : ℤ) → t ≡ unix_seconds_of (instant_of_second t)
second-of t = omega (arith, signed_arith)

nanosecond-of : (t : ℤ) → 0 ≡ unix_nanosecond_of (instant_of_second t)
unfolding wall_time
nanosecond-of t = omega (arith, signed_arith)

low-inside : (s t : ℤ) → first_inside ≤ℤ s → s ≤ℤ last_inside → (s -ℤ pos 86_400) ≤ℤ t → t ≤ℤ s →
    instant_if_any (instant_of_second t) ≡ Ok (instant_of_second t)
low-inside s t first last low high =
    let within = inside first_wall_clock last_wall_clock (instant_of_second t) (omega (arith, signed_arith)) (omega (arith, signed_arith)) in
    rw within refl

abbrev ok : MuxanduMoment → Result MuxanduMoment Refused
ok r = Ok r

truncate-inside : (v : MuxanduMoment) (number : ℕ) (u : Unit) (t : ℤ) → IsInside v → unit_numbered number ≡ Ok u →
    instant_of (local_multiple_below (unit_nanos u) (wall_at (shown_at (instant_of_moment v) v.offset_seconds) v.offset_seconds)) ≡ instant_of_second t →
    (v.seconds -ℤ pos 86_400) ≤ℤ t → t ≤ℤ v.seconds →
    Ok (record { seconds = t; nanoseconds = 0; offset_seconds = v.offset_seconds }) ≡ moment_truncate number v
truncate-inside v number u t h numbered low above below =
    rw (
      timestamp-inside v.seconds v.nanoseconds h.first h.last h.nanoseconds,
      offset-inside v.offset_seconds h.offset,
      shown-inside (instant_of_moment v) v.offset_seconds (first-of v h) (last-of v h) h.offset,
      numbered,
      low,
      low-inside v.seconds t h.first h.last above below,
    ) (ap ok (same_moment (second-of t) (nanosecond-of t)))

low-day : (s o : ℤ) (n : ℕ) → n ≤ 999_999_999 →
    instant_of (local_multiple_below nanos_per_day (wall_at (shown_at (instant_of_parts s n) o) o))
    ≡ instant_of_second (s -ℤ int_rem_euclid (s +ℤ o) (pos 86_400))
unfolding wall_multiple_below instant_of
low-day s o n h = omega (arith, signed_arith)

low-hour : (s o : ℤ) (n : ℕ) → n ≤ 999_999_999 →
    instant_of (local_multiple_below nanos_per_hour (wall_at (shown_at (instant_of_parts s n) o) o))
    ≡ instant_of_second (s -ℤ int_rem_euclid (s +ℤ o) (pos 3_600))
unfolding wall_multiple_below instant_of
low-hour s o n h = omega (arith, signed_arith)

low-minute : (s o : ℤ) (n : ℕ) → n ≤ 999_999_999 →
    instant_of (local_multiple_below nanos_per_minute (wall_at (shown_at (instant_of_parts s n) o) o))
    ≡ instant_of_second (s -ℤ int_rem_euclid (s +ℤ o) (pos 60))
unfolding wall_multiple_below instant_of
low-minute s o n h = omega (arith, signed_arith)

low-second : (s o : ℤ) (n : ℕ) → n ≤ 999_999_999 →
    instant_of (local_multiple_below nanos_per_second (wall_at (shown_at (instant_of_parts s n) o) o))
    ≡ instant_of_second (s -ℤ int_rem_euclid (s +ℤ o) (pos 1))
unfolding wall_multiple_below instant_of
low-second s o n h = omega (arith, signed_arith)

above-day : (s w : ℤ) → (s -ℤ pos 86_400) ≤ℤ (s -ℤ int_rem_euclid w (pos 86_400))
above-day s w = omega (arith, signed_arith)

above-hour : (s w : ℤ) → (s -ℤ pos 86_400) ≤ℤ (s -ℤ int_rem_euclid w (pos 3_600))
above-hour s w = omega (arith, signed_arith)

above-minute : (s w : ℤ) → (s -ℤ pos 86_400) ≤ℤ (s -ℤ int_rem_euclid w (pos 60))
above-minute s w = omega (arith, signed_arith)

above-second : (s w : ℤ) → (s -ℤ pos 86_400) ≤ℤ (s -ℤ int_rem_euclid w (pos 1))
above-second s w = omega (arith, signed_arith)

below-day : (s w : ℤ) → (s -ℤ int_rem_euclid w (pos 86_400)) ≤ℤ s
below-day s w = omega (arith, signed_arith)

below-hour : (s w : ℤ) → (s -ℤ int_rem_euclid w (pos 3_600)) ≤ℤ s
below-hour s w = omega (arith, signed_arith)

below-minute : (s w : ℤ) → (s -ℤ int_rem_euclid w (pos 60)) ≤ℤ s
below-minute s w = omega (arith, signed_arith)

below-second : (s w : ℤ) → (s -ℤ int_rem_euclid w (pos 1)) ≤ℤ s
below-second s w = omega (arith, signed_arith)

pub moment_truncate-day : (v : MuxanduMoment) → IsInside v → Ok (rounded_down (pos 86_400) v) ≡ moment_truncate 1 v
moment_truncate-day v h =
    let s = v.seconds in
    let w = v.seconds +ℤ v.offset_seconds in
    truncate-inside v 1 unit.Day (s -ℤ int_rem_euclid w (pos 86_400)) h refl (low-day s v.offset_seconds v.nanoseconds h.nanoseconds)
    (above-day s w) (below-day s w)

pub moment_truncate-hour : (v : MuxanduMoment) → IsInside v → Ok (rounded_down (pos 3_600) v) ≡ moment_truncate 2 v
moment_truncate-hour v h =
    let s = v.seconds in
    let w = v.seconds +ℤ v.offset_seconds in
    truncate-inside v 2 unit.Hour (s -ℤ int_rem_euclid w (pos 3_600)) h refl (low-hour s v.offset_seconds v.nanoseconds h.nanoseconds)
    (above-hour s w) (below-hour s w)

pub moment_truncate-minute : (v : MuxanduMoment) → IsInside v → Ok (rounded_down (pos 60) v) ≡ moment_truncate 3 v
moment_truncate-minute v h =
    let s = v.seconds in
    let w = v.seconds +ℤ v.offset_seconds in
    truncate-inside v 3 unit.Minute (s -ℤ int_rem_euclid w (pos 60)) h refl (low-minute s v.offset_seconds v.nanoseconds h.nanoseconds)
    (above-minute s w) (below-minute s w)

pub moment_truncate-second : (v : MuxanduMoment) → IsInside v → Ok (rounded_down (pos 1) v) ≡ moment_truncate 4 v
moment_truncate-second v h =
    let s = v.seconds in
    let w = v.seconds +ℤ v.offset_seconds in
    truncate-inside v 4 unit.Second (s -ℤ int_rem_euclid w (pos 1)) h refl (low-second s v.offset_seconds v.nanoseconds h.nanoseconds)
    (above-second s w) (below-second s w)

-- a truncation to less than a second
truncate-nanoseconds : (v : MuxanduMoment) (number : ℕ) (u : Unit) (n : ℕ) → IsInside v → unit_numbered number ≡ Ok u →
    instant_of (local_multiple_below (unit_nanos u) (wall_at (shown_at (instant_of_moment v) v.offset_seconds) v.offset_seconds))
    ≡ instant_of_parts v.seconds n → n < nanos_per_second →
    Ok (record { seconds = v.seconds; nanoseconds = n; offset_seconds = v.offset_seconds }) ≡ moment_truncate number v
truncate-nanoseconds v number u n h numbered low below =
    let seconds = unix_seconds_of-parts v.seconds n below in
    rw (
      timestamp-inside v.seconds v.nanoseconds h.first h.last h.nanoseconds,
      offset-inside v.offset_seconds h.offset,
      shown-inside (instant_of_moment v) v.offset_seconds (first-of v h) (last-of v h) h.offset,
      numbered,
      low,
      instant-inside (instant_of_parts v.seconds n) (rw seconds h.first) (rw seconds h.last),
    ) (ap ok (same_moment (sym seconds) (sym (unix_nanosecond_of-parts v.seconds n below))))

low-millisecond : (s o : ℤ) (n : ℕ) → n ≤ 999_999_999 →
    instant_of (local_multiple_below nanos_per_millisecond (wall_at (shown_at (instant_of_parts s n) o) o)) ≡ instant_of_parts s (n - n % 1_000_000)
unfolding wall_multiple_below instant_of
low-millisecond s o n h = omega (arith, signed_arith)

low-microsecond : (s o : ℤ) (n : ℕ) → n ≤ 999_999_999 →
    instant_of (local_multiple_below nanos_per_microsecond (wall_at (shown_at (instant_of_parts s n) o) o)) ≡ instant_of_parts s (n - n % 1_000)
unfolding wall_multiple_below instant_of
low-microsecond s o n h = omega (arith, signed_arith)

low-nanosecond : (s o : ℤ) (n : ℕ) → instant_of (local_multiple_below 1 (wall_at (shown_at (instant_of_parts s n) o) o)) ≡ instant_of_parts s (n - n % 1)
unfolding wall_multiple_below instant_of
low-nanosecond s o n = omega (arith, signed_arith)

pub moment_truncate-millisecond : (v : MuxanduMoment) → IsInside v → Ok (with_nanoseconds_below 1_000_000 v) ≡ moment_truncate 5 v
moment_truncate-millisecond v h =
    truncate-nanoseconds v 5 unit.Millisecond _ h refl (low-millisecond v.seconds v.offset_seconds v.nanoseconds h.nanoseconds) (omega (arith, h.nanoseconds))

pub moment_truncate-microsecond : (v : MuxanduMoment) → IsInside v → Ok (with_nanoseconds_below 1_000 v) ≡ moment_truncate 6 v
moment_truncate-microsecond v h =
    truncate-nanoseconds v 6 unit.Microsecond _ h refl (low-microsecond v.seconds v.offset_seconds v.nanoseconds h.nanoseconds) (omega (arith, h.nanoseconds))

pub moment_truncate-nanosecond : (v : MuxanduMoment) → IsInside v → Ok (with_nanoseconds_below 1 v) ≡ moment_truncate 7 v
moment_truncate-nanosecond v h =
    truncate-nanoseconds v 7 unit.Nanosecond _ h refl (low-nanosecond v.seconds v.offset_seconds v.nanoseconds) (omega (arith, h.nanoseconds))

pub ruleset rounded_moments = (
  moment_truncate-day,
  moment_truncate-hour,
  moment_truncate-minute,
  moment_truncate-second,
  moment_truncate-millisecond,
  moment_truncate-microsecond,
  moment_truncate-nanosecond,
)

-- numbers that come back from their bits

pub back64 : (w : ℤ) → neg_ℤ (pos 200_000_000_000_000) ≤ℤ w → w ≤ℤ pos 200_000_000_000_000 → to_z w64 (of_z w64 w) ≡ w
back64 w low high = omega (arith, signed_arith)

pub back32 : (w : ℤ) → neg_ℤ (pos 2_000_000_000) ≤ℤ w → w ≤ℤ pos 2_000_000_000 → to_z w32 (of_z w32 w) ≡ w
back32 w low high = omega (arith, signed_arith)

pub small32 : (n : ℕ) → n ≤ 999_999_999 → to_z w32 n ≡ pos n
small32 n h = omega (arith, signed_casts)

-- the steps of a difference

pub seconds-apart : (s t : ℤ) → first_inside ≤ℤ s → s ≤ℤ last_inside → first_inside ≤ℤ t → t ≤ℤ last_inside →
    to_z w64 (of_z w64 (to_z w64 (of_z w64 s) -ℤ to_z w64 (of_z w64 t))) ≡ s -ℤ t
seconds-apart s t a b c d =
    rw (
      back64 s (omega (arith, signed_arith)) (omega (arith, signed_arith)),
      back64 t (omega (arith, signed_arith)) (omega (arith, signed_arith)),
    ) (back64 (s -ℤ t) (omega (arith, signed_arith)) (omega (arith, signed_arith)))

one32 : (b : ℤ) → neg_ℤ (pos 1) ≤ℤ b → b ≤ℤ pos 1 → to_z w32 (of_z w32 b) ≡ b
one32 b low high = back32 b (omega (arith, signed_arith)) (omega (arith, signed_arith))

one64 : (b : ℤ) → neg_ℤ (pos 1) ≤ℤ b → b ≤ℤ pos 1 → to_z w64 (of_z w64 (to_z w32 (of_z w32 b))) ≡ b
one64 b low high = rw (one32 b low high) (back64 b (omega (arith, signed_arith)) (omega (arith, signed_arith)))

fits64 : (w : ℤ) → neg_ℤ (pos 200_000_000_000_000) ≤ℤ w → w ≤ℤ pos 200_000_000_000_000 → FitsSigned w64 w
fits64 w low high = omega (arith, signed_arith)

pub difference-fits : (s t b : ℤ) → first_inside ≤ℤ s → s ≤ℤ last_inside → first_inside ≤ℤ t → t ≤ℤ last_inside →
    neg_ℤ (pos 1) ≤ℤ b → b ≤ℤ pos 1 →
    FitsSigned w64 (to_z w64 (of_z w64 (to_z w64 (of_z w64 s) -ℤ to_z w64 (of_z w64 t))) -ℤ to_z w64 (of_z w64 (to_z w32 (of_z w32 b))))
difference-fits s t b h i j k low high =
    rw (seconds-apart s t h i j k, one64 b low high) (fits64 ((s -ℤ t) -ℤ b) (omega (arith, signed_arith)) (omega (arith, signed_arith)))

pub difference-seconds : (s t b : ℤ) → first_inside ≤ℤ s → s ≤ℤ last_inside → first_inside ≤ℤ t → t ≤ℤ last_inside →
    neg_ℤ (pos 1) ≤ℤ b → b ≤ℤ pos 1 →
    to_z w64 (of_z w64 (to_z w64 (of_z w64 (to_z w64 (of_z w64 s) -ℤ to_z w64 (of_z w64 t))) -ℤ to_z w64 (of_z w64 (to_z w32 (of_z w32 b)))))
    ≡ (s -ℤ t) -ℤ b
difference-seconds s t b h i j k low high =
    rw (seconds-apart s t h i j k, one64 b low high) (back64 ((s -ℤ t) -ℤ b) (omega (arith, signed_arith)) (omega (arith, signed_arith)))

pub parts-apart : (n m : ℕ) → n ≤ 999_999_999 → m ≤ 999_999_999 → to_z w32 (of_z w32 (to_z w32 n -ℤ to_z w32 m)) ≡ pos n -ℤ pos m
parts-apart n m h k =
    rw (small32 n h, small32 m k) (back32 (pos n -ℤ pos m) (omega (arith, signed_arith)) (omega (arith, signed_arith)))

pub difference-part : (n m : ℕ) (b : ℤ) → n ≤ 999_999_999 → m ≤ 999_999_999 → neg_ℤ (pos 1) ≤ℤ b → b ≤ℤ pos 1 →
    neg_ℤ (pos 999_999_999) ≤ℤ ((pos n -ℤ pos m) +ℤ (b *ℤ pos 1_000_000_000)) → ((pos n -ℤ pos m) +ℤ (b *ℤ pos 1_000_000_000)) ≤ℤ pos 999_999_999 →
    to_z w32 (of_z w32 (to_z w32 (of_z w32 (to_z w32 n -ℤ to_z w32 m)) +ℤ to_z w32 (of_z w32 (to_z w32 (of_z w32 b) *ℤ pos 1_000_000_000))))
    ≡ (pos n -ℤ pos m) +ℤ (b *ℤ pos 1_000_000_000)
difference-part n m b h k low high least most =
    rw (
      parts-apart n m h k,
      one32 b low high,
      back32 (b *ℤ pos 1_000_000_000) (omega (arith, signed_arith)) (omega (arith, signed_arith)),
    ) (back32 ((pos n -ℤ pos m) +ℤ (b *ℤ pos 1_000_000_000)) (omega (arith, signed_arith)) (omega (arith, signed_arith)))

pub difference-whole : (s t b : ℤ) (n m : ℕ) →
    duration_of_parts ((s -ℤ t) -ℤ b) ((pos n -ℤ pos m) +ℤ (b *ℤ pos 1_000_000_000)) ≡ instant_of_parts s n -ℤ instant_of_parts t m
difference-whole s t b n m = omega (arith, signed_arith)

-- parts of which none is below 0, and of which none is above 0

abs-in : (n : ℤ) → neg_ℤ (pos 999_999_999) ≤ℤ n → n ≤ℤ pos 999_999_999 → unsigned_abs n ≤ 999_999_999
abs-in (pos n) low high = omega (arith, signed_arith)
abs-in (negsuc n) low high = omega (arith, signed_arith)

high-parts : (s n : ℤ) → pos 0 ≤ℤ s → pos 0 ≤ℤ n → n ≤ℤ pos 999_999_999 → IsDurationParts s n
high-parts s n second low high = record { in_range = abs-in n (omega (arith, signed_arith)) high; one_sign = inl (second, low) }

low-parts : (s n : ℤ) → s ≤ℤ pos 0 → n ≤ℤ pos 0 → neg_ℤ (pos 999_999_999) ≤ℤ n → IsDurationParts s n
low-parts s n second high low = record { in_range = abs-in n low (omega (arith, signed_arith)); one_sign = inr (second, high) }

-- the parts of a difference have one sign after a second is taken from those above 0, or is added to those below 0
pub one-sign : (s n a b : ℤ) → neg_ℤ (pos 1_000_000_000) <ℤ n → n <ℤ pos 1_000_000_000 →
    (pos 0 <ℤ s → n <ℤ pos 0 → a ≡ pos 1) → (s ≤ℤ pos 0 → a ≡ pos 0) → (pos 0 ≤ℤ n → a ≡ pos 0) →
    (s <ℤ pos 0 → pos 0 <ℤ n → b ≡ pos 1) → (pos 0 ≤ℤ s → b ≡ pos 0) → (n ≤ℤ pos 0 → b ≡ pos 0) →
    IsDurationParts (s -ℤ (a -ℤ b)) (n +ℤ ((a -ℤ b) *ℤ pos 1_000_000_000))
one-sign s n a b low high one no_second no_part other no_other_second no_other_part =
    by_lt_z (pos 0) s
    (λ above. let e : b ≡ pos 0 = no_other_second (omega (arith, signed_arith)) in
    by_lt_z n (pos 0)
    (λ below. let f : a ≡ pos 1 = one above below in
    high-parts (s -ℤ (a -ℤ b)) (n +ℤ ((a -ℤ b) *ℤ pos 1_000_000_000))
    (omega (arith, signed_arith)) (omega (arith, signed_arith)) (omega (arith, signed_arith)))
    (λ not_below. let f : a ≡ pos 0 = no_part (omega (arith, signed_arith)) in
    high-parts (s -ℤ (a -ℤ b)) (n +ℤ ((a -ℤ b) *ℤ pos 1_000_000_000))
    (omega (arith, signed_arith)) (omega (arith, signed_arith)) (omega (arith, signed_arith))))
    (λ not_above. let e : a ≡ pos 0 = no_second (omega (arith, signed_arith)) in
    by_lt_z s (pos 0)
    (λ below. by_lt_z (pos 0) n
    (λ more. let f : b ≡ pos 1 = other below more in
    low-parts (s -ℤ (a -ℤ b)) (n +ℤ ((a -ℤ b) *ℤ pos 1_000_000_000))
    (omega (arith, signed_arith)) (omega (arith, signed_arith)) (omega (arith, signed_arith)))
    (λ not_more. let f : b ≡ pos 0 = no_other_part (omega (arith, signed_arith)) in
    low-parts (s -ℤ (a -ℤ b)) (n +ℤ ((a -ℤ b) *ℤ pos 1_000_000_000))
    (omega (arith, signed_arith)) (omega (arith, signed_arith)) (omega (arith, signed_arith))))
    (λ not_below. let f : b ≡ pos 0 = no_other_second (omega (arith, signed_arith)) in
    by_lt_z n (pos 0)
    (λ less. low-parts (s -ℤ (a -ℤ b)) (n +ℤ ((a -ℤ b) *ℤ pos 1_000_000_000))
    (omega (arith, signed_arith)) (omega (arith, signed_arith)) (omega (arith, signed_arith)))
    (λ not_less. high-parts (s -ℤ (a -ℤ b)) (n +ℤ ((a -ℤ b) *ℤ pos 1_000_000_000))
    (omega (arith, signed_arith)) (omega (arith, signed_arith)) (omega (arith, signed_arith)))))

pub one-apart : (a b : ℤ) → pos 0 ≤ℤ a → a ≤ℤ pos 1 → pos 0 ≤ℤ b → b ≤ℤ pos 1 →
    to_z w32 (of_z w32 (to_z w32 (of_z w32 a) -ℤ to_z w32 (of_z w32 b))) ≡ a -ℤ b
one-apart a b h k l m =
    rw (
      one32 a (omega (arith, signed_arith)) k,
      one32 b (omega (arith, signed_arith)) m,
    ) (one32 (a -ℤ b) (omega (arith, signed_arith)) (omega (arith, signed_arith)))

-- less than a second of nanoseconds, of either sign
pub in-range : (n : ℤ) → unsigned_abs n ≤ 999_999_999 → (neg_ℤ (pos 999_999_999) ≤ℤ n) × (n ≤ℤ pos 999_999_999)
in-range n h = (omega (arith, signed_arith), omega (arith, signed_arith))

-- the steps of a sum

pub sum-of : (n : ℕ) (w : ℤ) → n ≤ 999_999_999 → neg_ℤ (pos 999_999_999) ≤ℤ w → w ≤ℤ pos 999_999_999 →
    to_z w32 (of_z w32 (to_z w32 n +ℤ to_z w32 (of_z w32 w))) ≡ pos n +ℤ w
sum-of n w h low high =
    rw (small32 n h, back32 w (omega (arith, signed_arith)) (omega (arith, signed_arith)))
    (back32 (pos n +ℤ w) (omega (arith, signed_arith)) (omega (arith, signed_arith)))

pub sum-seconds : (s w c : ℤ) → first_inside ≤ℤ s → s ≤ℤ last_inside → neg_ℤ (pos 70_000_000_000_000) ≤ℤ w → w ≤ℤ pos 70_000_000_000_000 →
    neg_ℤ (pos 1) ≤ℤ c → c ≤ℤ pos 1 →
    to_z w64 (of_z w64 (to_z w64 (of_z w64 (to_z w64 (of_z w64 s) +ℤ to_z w64 (of_z w64 w))) +ℤ to_z w64 (of_z w64 (to_z w32 (of_z w32 c))))) ≡ (s +ℤ w) +ℤ c
sum-seconds s w c a b d e f g =
    rw (
      back64 s (omega (arith, signed_arith)) (omega (arith, signed_arith)),
      back64 w (omega (arith, signed_arith)) (omega (arith, signed_arith)),
      back64 (s +ℤ w) (omega (arith, signed_arith)) (omega (arith, signed_arith)),
      one64 c f g,
    ) (back64 ((s +ℤ w) +ℤ c) (omega (arith, signed_arith)) (omega (arith, signed_arith)))

pub sum-fits : (s w c : ℤ) → first_inside ≤ℤ s → s ≤ℤ last_inside → neg_ℤ (pos 70_000_000_000_000) ≤ℤ w → w ≤ℤ pos 70_000_000_000_000 →
    neg_ℤ (pos 1) ≤ℤ c → c ≤ℤ pos 1 →
    FitsSigned w64 (to_z w64 (of_z w64 (to_z w64 (of_z w64 s) +ℤ to_z w64 (of_z w64 w))) +ℤ to_z w64 (of_z w64 (to_z w32 (of_z w32 c))))
sum-fits s w c a b d e f g =
    rw (
      back64 s (omega (arith, signed_arith)) (omega (arith, signed_arith)),
      back64 w (omega (arith, signed_arith)) (omega (arith, signed_arith)),
      back64 (s +ℤ w) (omega (arith, signed_arith)) (omega (arith, signed_arith)),
      one64 c f g,
    ) (fits64 ((s +ℤ w) +ℤ c) (omega (arith, signed_arith)) (omega (arith, signed_arith)))

pub carried-range : (k : ℤ) → neg_ℤ (pos 1_000_000_000) <ℤ k → k <ℤ pos 2_000_000_000 →
    (neg_ℤ (pos 1) ≤ℤ int_div_euclid k (pos nanos_per_second)) × (int_div_euclid k (pos nanos_per_second) ≤ℤ pos 1)
carried-range k low high = (omega (arith, signed_arith), omega (arith, signed_arith))

sum-second : (s w v : ℤ) (n : ℕ) →
    unix_seconds_of (instant_of_parts s n +ℤ duration_of_parts w v) ≡ (s +ℤ w) +ℤ int_div_euclid (pos n +ℤ v) (pos nanos_per_second)
sum-second s w v n = omega (arith, signed_arith)

sum-nanosecond : (s w v : ℤ) (n r : ℕ) → pos r ≡ int_rem_euclid (pos n +ℤ v) (pos nanos_per_second) →
    r ≡ unix_nanosecond_of (instant_of_parts s n +ℤ duration_of_parts w v)
unfolding wall_time
sum-nanosecond s w v n r e = omega (arith, signed_arith)

-- the moment of a sum
pub sum-moment : (s w v o c : ℤ) (n r : ℕ) → c ≡ int_div_euclid (pos n +ℤ v) (pos nanos_per_second) →
    pos r ≡ int_rem_euclid (pos n +ℤ v) (pos nanos_per_second) →
    ◌≡◌ {A = MuxanduMoment} (record { seconds = (s +ℤ w) +ℤ c; nanoseconds = r; offset_seconds = o })
    (moment_parts o (instant_of_parts s n +ℤ duration_of_parts w v))
sum-moment s w v o c n r e f = rw (e, sum-second s w v n, ← (sum-nanosecond s w v n r f)) refl

-- a duration of the other sign

pub negative64 : (s : ℤ) → neg_ℤ (pos 70_000_000_000_000) ≤ℤ s → s ≤ℤ pos 70_000_000_000_000 →
    to_z w64 (of_z w64 (pos 0 -ℤ to_z w64 (of_z w64 s))) ≡ pos 0 -ℤ s
negative64 s low high =
    rw (back64 s (omega (arith, signed_arith)) (omega (arith, signed_arith)))
    (back64 (pos 0 -ℤ s) (omega (arith, signed_arith)) (omega (arith, signed_arith)))

pub negative32 : (n : ℤ) → neg_ℤ (pos 999_999_999) ≤ℤ n → n ≤ℤ pos 999_999_999 →
    to_z w32 (of_z w32 (pos 0 -ℤ to_z w32 (of_z w32 n))) ≡ pos 0 -ℤ n
negative32 n low high =
    rw (back32 n (omega (arith, signed_arith)) (omega (arith, signed_arith)))
    (back32 (pos 0 -ℤ n) (omega (arith, signed_arith)) (omega (arith, signed_arith)))

pub short-negative : (s n : ℤ) → IsShort s n → IsShort (pos 0 -ℤ s) (pos 0 -ℤ n)
short-negative s n h = record {
  least = omega (arith, signed_arith, h.most);
  most = omega (arith, signed_arith, h.least);
  least_part = omega (arith, signed_arith, h.most_part);
  most_part = omega (arith, signed_arith, h.least_part);
}

-- an order comes back from its bits
pub sign-back : (o : Ordering) → to_z w32 (of_z w32 (sign_of o)) ≡ sign_of o
sign-back Less = refl
sign-back Equal = refl
sign-back Greater = refl
