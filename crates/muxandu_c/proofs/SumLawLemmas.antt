-- Sums, differences, orders and conversions: the proofs of the laws of `specs/SumLaws.antt`.
use Rattle.std.proofs.Common.{◌≡◌, ◌∙◌, ◌<◌, ◌≤◌, ℕ, ◌⊎◌, inl, inr, refl, sym, ap, arith, ℤ, pos, ◌+ℤ◌, ◌-ℤ◌, ◌<ℤ◌, Result, Ok, Err}
use Rattle.std.specs.Cmp.{int_cmp_is}
use Rattle.std.specs.Ordering.{int_cmp}
use Rattle.std.specs.declared.cmp.Ordering.{Ordering}
use Rattle.std.specs.declared.cmp.Ordering.TheVariants.{Less, Equal, Greater}
use Rattle.std.proofs.lemmas.Int.{ints}
use Rattle.calendar_values.specs.Durations.{IsDuration}
use Rattle.calendar_values.specs.Offsets.{IsOffset}
use Rattle.calendar_values.specs.OrderLemmas.{int_cmp_agrees}
use Rattle.calendar_values.specs.SignedArith.{signed_arith}
use Rattle.calendar_values.specs.WallClock.{IsWallClock, first_wall_clock, last_wall_clock}
use Rattle.offset_times.specs.InstantLemmas.{instant_of-local_at, local_at-instant_of, instant_of-later, instant_of-earlier}
use Rattle.offset_times.specs.Local.{Local, instant_of, local_at, shown_at, wall_at}
use Rattle.plain_times.specs.Sums.{nearest_wall_clock}
use Rattle.stamp_times.specs.Instants.{instant_of_parts}
use Rattle.muxandu_c.proofs.InversionLemmas.{and_then-ok, same-value, date_time_value-ok, date_time_value-of, timestamp_value-ok, timestamp_value-of}
use Rattle.muxandu_c.proofs.InversionLemmas.{duration_value-of, instant-ok, instant-in, local-ok, shown-ok, shown-in}
use Rattle.muxandu_c.proofs.ReadBackLemmas.{HasInstant, date_time_instant-ok}
use Rattle.muxandu_c.specs.Answers.{and_then}
use Rattle.muxandu_c.specs.Moments.{moment_parts, as_moment, moment_value, instant_at, timestamp_of_moment}
use Rattle.muxandu_c.specs.Moments.{moment_to_offset, moment_difference, moment_compare}
use Rattle.muxandu_c.specs.SumLaws.{ConversionsKeepTheInstant, TimestampSumsAreUndone, ComesBefore, OrderIsThatOfSeconds, OrdersAreThoseOfTimestamps}
use Rattle.muxandu_c.specs.SumLaws.{DateTimeSumsAreThoseOfTimestamps, MomentSumsAreThoseOfTimestamps, SaturatingSumsEndInRange, SaturatingDateTimesEndInRange}
use Rattle.muxandu_c.specs.Values.{duration_value, duration_parts, timestamp_value, timestamp_parts, date_time_value, date_time_parts, sign_of}
use Rattle.muxandu_c.specs.Values.{instant_if_any, local_if_any, shown_at_offset, as_timestamp, as_duration, as_date_time, date_time_instant}
use Rattle.muxandu_c.specs.Values.{timestamp_add, timestamp_subtract, timestamp_difference, timestamp_compare}
use Rattle.muxandu_c.specs.Values.{timestamp_from_date_time, date_time_to_offset}
use Rattle.muxandu_c.specs.Values.{date_time_difference, date_time_compare}
use Rattle.muxandu_c.specs.declared.moments.MuxanduMoment.{MuxanduMoment}
use Rattle.muxandu_c.specs.declared.refused.Refused.{Refused}
use Rattle.muxandu_c.specs.declared.values.MuxanduDateTime.{MuxanduDateTime}
use Rattle.muxandu_c.specs.declared.values.MuxanduDuration.{MuxanduDuration}
use Rattle.muxandu_c.specs.declared.values.MuxanduTimestamp.{MuxanduTimestamp}

-- the result of two values, of which a step may fail
abbrev both : {A B C : Type 0} → Result A Refused → Result B Refused → (A → B → Result C Refused) → Result C Refused
both a b next = and_then a (λ x. and_then b (next x))

-- two values that lead to a third
record Led {A B C : Type 0} (a : Result A Refused) (b : Result B Refused) (next : A → B → Result C Refused) (value : C) (x : A) (y : B) : Type 0 where
  first : a ≡ Ok x
  second : b ≡ Ok y
  made : next x y ≡ Ok value

both-ok : {A B C : Type 0} (a : Result A Refused) (b : Result B Refused) (next : A → B → Result C Refused) (value : C) → both a b next ≡ Ok value
    → (x : A) × (y : B) × Led a b next value x y
both-ok {A} {B} {C} (Ok x) (Ok y) next value e = (x, y, record { first = refl; second = refl; made = e })
both-ok {A} {B} {C} (Ok x) (Err refusal) next value e = absurd cc
both-ok {A} {B} {C} (Err refusal) b next value e = absurd cc

both-in : {A B C : Type 0} (a : Result A Refused) (b : Result B Refused) (next : A → B → Result C Refused) (x : A) (y : B)
    → a ≡ Ok x → b ≡ Ok y → both a b next ≡ next x y
both-in {A} {B} {C} (Ok x') (Ok y') next x y e f = let p : x' ≡ x = cc in let q : y' ≡ y = cc in ap (λ (z : A). next z y') p ∙ ap (next x) q
both-in {A} {B} {C} (Ok x') (Err refusal) next x y e f = absurd cc
both-in {A} {B} {C} (Err refusal) b next x y e f = absurd cc

-- a timestamp moved by a duration, forward or back
abbrev moved : (ℤ → ℤ → ℤ) → MuxanduTimestamp → MuxanduDuration → Result MuxanduTimestamp Refused
moved move v w = as_timestamp (both (timestamp_value v) (duration_value w) (λ i d. instant_if_any (move i d)))

record IsMoved (move : ℤ → ℤ → ℤ) (v : MuxanduTimestamp) (w : MuxanduDuration) (u : MuxanduTimestamp) (i d : ℤ) : Type 0 where
  value : timestamp_value v ≡ Ok i
  duration : duration_value w ≡ Ok d
  range : IsWallClock (move i d)
  is : timestamp_parts (move i d) ≡ u

moved-ok : (move : ℤ → ℤ → ℤ) (v u : MuxanduTimestamp) (w : MuxanduDuration) → moved move v w ≡ Ok u → (i : ℤ) × (d : ℤ) × IsMoved move v w u i d
moved-ok move v u w e =
    let at = and_then-ok (both (timestamp_value v) (duration_value w) (λ i d. instant_if_any (move i d))) (λ (i : ℤ). Ok (timestamp_parts i)) u e in
    let led = both-ok (timestamp_value v) (duration_value w) (λ i d. instant_if_any (move i d)) at.0 at.1 in
    let made = instant-ok _ at.0 led.2.made in
    (led.0, led.1, record { value = led.2.first; duration = led.2.second; range = made.0; is = ap timestamp_parts made.1 ∙ same-value _ _ at.2 })

moved-in : (move : ℤ → ℤ → ℤ) (v : MuxanduTimestamp) (w : MuxanduDuration) (i d : ℤ) → timestamp_value v ≡ Ok i → duration_value w ≡ Ok d
    → IsWallClock (move i d) → moved move v w ≡ Ok (timestamp_parts (move i d))
moved-in move v w i d value duration range =
    ap as_timestamp (both-in (timestamp_value v) (duration_value w) (λ i d. instant_if_any (move i d)) i d value duration ∙ instant-in (move i d) range)

-- a step that another undoes
undone : (move back : ℤ → ℤ → ℤ) → ((i d : ℤ) → back (move i d) d ≡ i) → (v u : MuxanduTimestamp) (w : MuxanduDuration) → moved move v w ≡ Ok u
    → moved back u w ≡ Ok v
undone move back undoes v u w e =
    let step = moved-ok move v u w e in
    let i = step.0 in
    let d = step.1 in
    let read = timestamp_value-ok v i step.2.value in
    rw (← step.2.is) (moved-in back _ w (move i d) d (timestamp_value-of (move i d) step.2.range) step.2.duration (rw (undoes i d) read.range)
    ∙ ap (λ (z : ℤ). Ok (timestamp_parts z)) (undoes i d) ∙ ap (λ (z : MuxanduTimestamp). Ok z) read.parts)

-- the duration between two timestamps
record IsBetween (v u : MuxanduTimestamp) (w : MuxanduDuration) (i j : ℤ) : Type 0 where
  first : timestamp_value v ≡ Ok i
  second : timestamp_value u ≡ Ok j
  is : duration_parts (i -ℤ j) ≡ w
  value : duration_value w ≡ Ok (i -ℤ j)

is_duration : (i j : ℤ) → IsWallClock i → IsWallClock j → IsDuration (i -ℤ j)
is_duration i j h k = (omega (arith, signed_arith, h.0, k.1), omega (arith, signed_arith, h.1, k.0))

difference-ok : (v u : MuxanduTimestamp) (w : MuxanduDuration) → timestamp_difference v u ≡ Ok w → (i : ℤ) × (j : ℤ) × IsBetween v u w i j
difference-ok v u w e =
    let at = and_then-ok (both (timestamp_value v) (timestamp_value u) (λ i j. Ok (i -ℤ j))) (λ (d : ℤ). Ok (duration_parts d)) w e in
    let led = both-ok (timestamp_value v) (timestamp_value u) (λ i j. Ok (i -ℤ j)) at.0 at.1 in
    let i = led.0 in
    let j = led.1 in
    let is : duration_parts (i -ℤ j) ≡ w = ap duration_parts (same-value _ _ led.2.made) ∙ same-value _ _ at.2 in
    let range = is_duration i j (timestamp_value-ok v i led.2.first).range (timestamp_value-ok u j led.2.second).range in
    (i, j, record { first = led.2.first; second = led.2.second; is = is; value = ap duration_value (sym is) ∙ duration_value-of (i -ℤ j) range })

led : (move : ℤ → ℤ → ℤ) (v : MuxanduTimestamp) (w : MuxanduDuration) (u : MuxanduTimestamp) (i d j : ℤ) → timestamp_value v ≡ Ok i
    → duration_value w ≡ Ok d → timestamp_value u ≡ Ok j → move i d ≡ j → moved move v w ≡ Ok u
led move v w u i d j first duration last is =
    let read = timestamp_value-ok u j last in
    moved-in move v w i d first duration (rw is read.range) ∙ ap (λ (z : ℤ). Ok (timestamp_parts z)) is ∙ ap (λ (z : MuxanduTimestamp). Ok z) read.parts

sums-later : (v u : MuxanduTimestamp) (w : MuxanduDuration) → timestamp_difference v u ≡ Ok w → timestamp_add u w ≡ Ok v
sums-later v u w e =
    let at = difference-ok v u w e in
    led (λ i d. i +ℤ d) u w v at.1 (at.0 -ℤ at.1) at.0 at.2.second at.2.value at.2.first (omega (arith, signed_arith))

sums-earlier : (v u : MuxanduTimestamp) (w : MuxanduDuration) → timestamp_difference v u ≡ Ok w → timestamp_subtract v w ≡ Ok u
sums-earlier v u w e =
    let at = difference-ok v u w e in
    led (λ i d. i -ℤ d) v w u at.0 (at.0 -ℤ at.1) at.1 at.2.first at.2.value at.2.second (omega (arith, signed_arith))

pub timestamp_sums : TimestampSumsAreUndone
timestamp_sums = record {
  sum = undone (λ i d. i +ℤ d) (λ i d. i -ℤ d) (λ i d. omega (arith, signed_arith));
  difference = undone (λ i d. i -ℤ d) (λ i d. i +ℤ d) (λ i d. omega (arith, signed_arith));
  later = sums-later;
  earlier = sums-earlier;
}

-- the order of two numbers
less : (x y : ℤ) → x <ℤ y → int_cmp x y ≡ Less
less x y h = sym (int_cmp_is x y Less h)

equal : (x y : ℤ) → x ≡ y → int_cmp x y ≡ Equal
equal x y h = sym (int_cmp_is x y Equal h)

greater : (x y : ℤ) → y <ℤ x → int_cmp x y ≡ Greater
greater x y h = sym (int_cmp_is x y Greater h)

before_instant : (v w : MuxanduTimestamp) → v.nanoseconds ≤ 999_999_999 → ComesBefore v w
    → instant_of_parts v.seconds v.nanoseconds <ℤ instant_of_parts w.seconds w.nanoseconds
before_instant v w low order = choose v.seconds w.seconds v.nanoseconds w.nanoseconds low order where
  choose : (s t : ℤ) (n m : ℕ) → n ≤ 999_999_999 → (s <ℤ t) ⊎ ((s ≡ t) × (n < m)) → instant_of_parts s n <ℤ instant_of_parts t m
  choose s t n m low order =
      elim order [
        | inl h ↦ omega (arith, signed_arith)
        | inr h ↦ rw h.0 (omega (arith, signed_arith, h.1))
      ]

order-difference : (v w : MuxanduTimestamp) (d : MuxanduDuration) (n : ℤ) → timestamp_difference v w ≡ Ok d → duration_value d ≡ Ok n
    → timestamp_compare v w ≡ sign_of (int_cmp n (pos 0))
order-difference v w d n e f =
    let at = difference-ok v w d e in
    let size : at.0 -ℤ at.1 ≡ n = same-value _ _ (sym at.2.value ∙ f) in
    ap sign_of (compared at.0 at.1 n size _ _ (timestamp_value-ok v at.0 at.2.first).instant (timestamp_value-ok w at.1 at.2.second).instant) where
      compared : (i j n : ℤ) → i -ℤ j ≡ n → (x y : ℤ) → i ≡ x → j ≡ y → int_cmp x y ≡ int_cmp n (pos 0)
      compared i j n size x y same same' =
          int_cmp_agrees x y n (pos 0) (λ h. omega (arith, signed_arith)) (λ h. omega (arith, signed_arith)) (λ h. omega (arith, signed_arith))

pub order : OrderIsThatOfSeconds
order = record {
  before = λ v w low h. ap sign_of (less _ _ (before_instant v w low h));
  same = λ v. ap sign_of (equal (instant_of_parts v.seconds v.nanoseconds) _ refl);
  after = λ v w low h. ap sign_of (greater _ _ (before_instant w v low h));
  difference = order-difference;
}

-- the instant of a timestamp of a date-time
instant-of_timestamp : (v : MuxanduDateTime) (a : MuxanduTimestamp) → timestamp_from_date_time v ≡ Ok a
    → (i : ℤ) × (at : Local) × (HasInstant v at i × (timestamp_parts i ≡ a) × (timestamp_value a ≡ Ok i))
instant-of_timestamp v a e =
    let instant = and_then-ok (date_time_instant v) (λ (i : ℤ). Ok (timestamp_parts i)) a e in
    let i = instant.0 in
    let at = date_time_instant-ok v i instant.1 in
    let is = same-value _ _ instant.2 in
    (i, at.0, (at.1, is, ap timestamp_value (sym is) ∙ timestamp_value-of i at.1.range))

orders-date_times : (v w : MuxanduDateTime) (a b : MuxanduTimestamp) → timestamp_from_date_time v ≡ Ok a → timestamp_from_date_time w ≡ Ok b
    → date_time_compare v w ≡ Ok (timestamp_compare a b)
orders-date_times v w a b e f =
    let first = instant-of_timestamp v a e in
    let second = instant-of_timestamp w b f in
    let instants = compared (instant_of first.1) (instant_of second.1) _ _
    (first.2.0.instant ∙ (timestamp_value-ok a first.0 first.2.2).instant) (second.2.0.instant ∙ (timestamp_value-ok b second.0 second.2.2).instant) in
    both-in (date_time_value v) (date_time_value w) (λ a b. Ok (sign_of (int_cmp (instant_of a) (instant_of b)))) first.1 second.1
    first.2.0.value second.2.0.value ∙ ap (λ (o : Ordering). Ok (sign_of o)) instants where
      compared : (i j x y : ℤ) → i ≡ x → j ≡ y → int_cmp i j ≡ int_cmp x y
      compared i j x y p q = ap (λ (z : ℤ). int_cmp z j) p ∙ ap (int_cmp x) q

-- the instant of a moment is that of its timestamp, and clocks at its offset can show it
record IsMomentOf (v : MuxanduMoment) (i : ℤ) : Type 0 where
  value : timestamp_value (timestamp_of_moment v) ≡ Ok i
  offset : IsOffset v.offset_seconds
  shown : IsWallClock (shown_at i v.offset_seconds)

instant_at-ok : (o i j : ℤ) → instant_at o i ≡ Ok j → IsOffset o × IsWallClock (shown_at i o) × (i ≡ j)
instant_at-ok o i j e =
    let at = and_then-ok (shown_at_offset i o) (λ (l : Local). Ok i) j e in
    let shown = shown-ok i o at.0 at.1 in (shown.offset, shown.wall, same-value _ _ at.2)

instant_at-in : (o i : ℤ) → IsOffset o → IsWallClock (shown_at i o) → instant_at o i ≡ Ok i
instant_at-in o i h k = ap (λ (r : Result Local Refused). and_then r (λ (l : Local). Ok i)) (shown-in i o h k)

moment_value-ok : (v : MuxanduMoment) (i : ℤ) → moment_value v ≡ Ok i → IsMomentOf v i
moment_value-ok v i e =
    let at = and_then-ok (timestamp_value (timestamp_of_moment v)) (instant_at v.offset_seconds) i e in
    let shown = instant_at-ok v.offset_seconds at.0 i at.2 in
    record { value = at.1 ∙ ap (λ (z : ℤ). Ok z) shown.2; offset = shown.0; shown = rw (← shown.2) shown.1 }

moment_value-in : (v : MuxanduMoment) (i : ℤ) → IsMomentOf v i → moment_value v ≡ Ok i
moment_value-in v i h =
    ap (λ (r : Result ℤ Refused). and_then r (instant_at v.offset_seconds)) h.value ∙ instant_at-in v.offset_seconds i h.offset h.shown

orders-moments : (v w : MuxanduMoment) (sign : ℤ) → moment_compare v w ≡ Ok sign → sign ≡ timestamp_compare (timestamp_of_moment v) (timestamp_of_moment w)
orders-moments v w sign e =
    let led = both-ok (moment_value v) (moment_value w) (λ i j. Ok (sign_of (int_cmp i j))) sign e in
    let first = (moment_value-ok v led.0 led.2.first).value in
    let second = (moment_value-ok w led.1 led.2.second).value in
    sym (same-value _ _ led.2.made) ∙ ap (λ (z : ℤ). sign_of (int_cmp z led.1)) (timestamp_value-ok _ led.0 first).instant
    ∙ ap (λ (z : ℤ). sign_of (int_cmp (instant_of_parts v.seconds v.nanoseconds) z)) (timestamp_value-ok _ led.1 second).instant

pub orders : OrdersAreThoseOfTimestamps
orders = record { date_times = orders-date_times; moments = orders-moments }

-- a date-time moved by a duration at its offset
abbrev date_time_moved : (ℤ → ℤ → ℤ) → MuxanduDateTime → MuxanduDuration → Result MuxanduDateTime Refused
date_time_moved move v w = as_date_time (both (date_time_value v) (duration_value w) (λ at d. local_if_any (move at.wall d) at.offset))

record IsDateTimeMoved (move : ℤ → ℤ → ℤ) (v : MuxanduDateTime) (w : MuxanduDuration) (u : MuxanduDateTime) (at : Local) (d : ℤ) : Type 0 where
  value : date_time_value v ≡ Ok at
  duration : duration_value w ≡ Ok d
  range : IsWallClock (move at.wall d)
  is : date_time_parts (wall_at (move at.wall d) at.offset) ≡ u

date_time_moved-ok : (move : ℤ → ℤ → ℤ) (v u : MuxanduDateTime) (w : MuxanduDuration) → date_time_moved move v w ≡ Ok u
    → (at : Local) × (d : ℤ) × IsDateTimeMoved move v w u at d
date_time_moved-ok move v u w e =
    let made = and_then-ok (both (date_time_value v) (duration_value w) (λ at d. local_if_any (move at.wall d) at.offset))
    (λ (at : Local). Ok (date_time_parts at)) u e in
    let led = both-ok (date_time_value v) (duration_value w) (λ at d. local_if_any (move at.wall d) at.offset) made.0 made.1 in
    let local = local-ok _ led.0.offset made.0 led.2.made in (
      led.0,
      led.1,
      record {
        value = led.2.first;
        duration = led.2.second;
        range = local.0;
        is = ap date_time_parts local.1 ∙ same-value _ _ made.2;
      },
    )

-- the timestamp of a moved date-time is the moved timestamp
date_time_moved-timestamp : (move : ℤ → ℤ → ℤ) → ((at : Local) (d : ℤ) → instant_of (wall_at (move at.wall d) at.offset) ≡ move (instant_of at) d)
    → (v u : MuxanduDateTime) (w : MuxanduDuration) (a : MuxanduTimestamp) → date_time_moved move v w ≡ Ok u → timestamp_from_date_time v ≡ Ok a
    → (timestamp_from_date_time u ≡ moved move a w) × (u.offset_seconds ≡ v.offset_seconds)
date_time_moved-timestamp move moves v u w a e f =
    let step = date_time_moved-ok move v u w e in
    let at = step.0 in
    let d = step.1 in
    let read = date_time_value-ok v at step.2.value in
    let stamp = instant-of_timestamp v a f in
    let own : stamp.1 ≡ at = same-value _ _ (sym stamp.2.0.value ∙ step.2.value) in
    let instant : instant_of at ≡ stamp.0 = ap instant_of (sym own) ∙ stamp.2.0.instant in
    let later = wall_at (move at.wall d) at.offset in
    let u_is : date_time_value u ≡ Ok later = ap date_time_value (sym step.2.is) ∙ date_time_value-of later (step.2.range, read.range.1) in (
      ap (λ (r : Result Local Refused). as_timestamp (and_then r (λ (l : Local). instant_if_any (instant_of l)))) u_is
          ∙ ap (λ (z : ℤ). as_timestamp (instant_if_any z)) (moves at d ∙ ap (λ (z : ℤ). move z d) instant)
          ∙ sym (ap as_timestamp (both-in (timestamp_value a) (duration_value w) (λ i d. instant_if_any (move i d)) stamp.0 d stamp.2.2 step.2.duration)),
      ap (λ (z : MuxanduDateTime). z.offset_seconds) (sym step.2.is)
          ∙ ap (λ (z : MuxanduDateTime). z.offset_seconds) read.parts,
    )

date_times-between : (v w : MuxanduDateTime) (a b : MuxanduTimestamp) → timestamp_from_date_time v ≡ Ok a → timestamp_from_date_time w ≡ Ok b
    → date_time_difference v w ≡ timestamp_difference a b
date_times-between v w a b e f =
    let first = instant-of_timestamp v a e in
    let second = instant-of_timestamp w b f in
    ap as_duration (both-in (date_time_value v) (date_time_value w) (λ a b. Ok (instant_of a -ℤ instant_of b)) first.1 second.1 first.2.0.value second.2.0.value
    ∙ ap (λ (z : ℤ). Ok (z -ℤ instant_of second.1)) first.2.0.instant ∙ ap (λ (z : ℤ). Ok (first.0 -ℤ z)) second.2.0.instant
    ∙ sym (both-in (timestamp_value a) (timestamp_value b) (λ i j. Ok (i -ℤ j)) first.0 second.0 first.2.2 second.2.2))

pub date_time_sums : DateTimeSumsAreThoseOfTimestamps
date_time_sums = record {
  sum = date_time_moved-timestamp (λ i d. i +ℤ d) instant_of-later;
  difference = date_time_moved-timestamp (λ i d. i -ℤ d) instant_of-earlier;
  between = date_times-between;
}

-- the same of a moment
moment_moved-timestamp : (move : ℤ → ℤ → ℤ) (v u : MuxanduMoment) (w : MuxanduDuration)
    → as_moment v.offset_seconds (both (moment_value v) (duration_value w) (λ i d. and_then (instant_if_any (move i d)) (instant_at v.offset_seconds))) ≡ Ok u
    → (moved move (timestamp_of_moment v) w ≡ Ok (timestamp_of_moment u)) × (u.offset_seconds ≡ v.offset_seconds)
moment_moved-timestamp move v u w e =
    let o = v.offset_seconds in
    let at = and_then-ok (both (moment_value v) (duration_value w) (λ i d. and_then (instant_if_any (move i d)) (instant_at o)))
    (λ (i : ℤ). Ok (moment_parts o i)) u e in
    let led = both-ok (moment_value v) (duration_value w) (λ i d. and_then (instant_if_any (move i d)) (instant_at o)) at.0 at.1 in
    let step = and_then-ok (instant_if_any (move led.0 led.1)) (instant_at o) at.0 led.2.made in
    let range = instant-ok _ step.0 step.1 in
    let shown = instant_at-ok o step.0 at.0 step.2 in
    let is = same-value _ _ at.2 in (
      moved-in move (timestamp_of_moment v) w led.0 led.1 (moment_value-ok v led.0 led.2.first).value led.2.second range.0
          ∙ ap (λ (z : ℤ). Ok (timestamp_parts z)) (range.1 ∙ shown.2) ∙ ap (λ (m : MuxanduMoment). Ok (timestamp_of_moment m)) is,
      ap (λ (m : MuxanduMoment). m.offset_seconds) (sym is),
    )

moments-between : (v w : MuxanduMoment) (d : MuxanduDuration) → moment_difference v w ≡ Ok d
    → timestamp_difference (timestamp_of_moment v) (timestamp_of_moment w) ≡ Ok d
moments-between v w d e =
    let at = and_then-ok (both (moment_value v) (moment_value w) (λ i j. Ok (i -ℤ j))) (λ (n : ℤ). Ok (duration_parts n)) d e in
    let led = both-ok (moment_value v) (moment_value w) (λ i j. Ok (i -ℤ j)) at.0 at.1 in
    ap as_duration (both-in _ _ (λ i j. Ok (i -ℤ j)) led.0 led.1 (moment_value-ok v led.0 led.2.first).value (moment_value-ok w led.1 led.2.second).value
    ∙ led.2.made) ∙ at.2

pub moment_sums : MomentSumsAreThoseOfTimestamps
moment_sums = record {
  sum = moment_moved-timestamp (λ i d. i +ℤ d);
  difference = moment_moved-timestamp (λ i d. i -ℤ d);
  between = moments-between;
}

-- the same instant at another offset
conversions-date_time : (v w : MuxanduDateTime) (o : ℤ) → date_time_to_offset v o ≡ Ok w → (at : Local)
    × ((date_time_value v ≡ Ok at) × (date_time_value w ≡ Ok (local_at (instant_of at) o)) × IsOffset o × (w.offset_seconds ≡ o))
conversions-date_time v w o e =
    let made = and_then-ok (and_then (date_time_value v) (λ (at : Local). shown_at_offset (instant_of at) o)) (λ (l : Local). Ok (date_time_parts l)) w e in
    let at = and_then-ok (date_time_value v) (λ (at : Local). shown_at_offset (instant_of at) o) made.0 made.1 in
    let shown = shown-ok (instant_of at.0) o made.0 at.2 in
    let is : date_time_parts (local_at (instant_of at.0) o) ≡ w = ap date_time_parts (sym shown.is) ∙ same-value _ _ made.2 in (
      at.0,
      (
        at.1,
        ap date_time_value (sym is) ∙ date_time_value-of (local_at (instant_of at.0) o) (shown.wall, shown.offset),
        shown.offset,
        ap (λ (z : MuxanduDateTime). z.offset_seconds) (sym is),
      ),
    )

timestamp-of : (v : MuxanduDateTime) (at : Local) → date_time_value v ≡ Ok at → timestamp_from_date_time v ≡ as_timestamp (instant_if_any (instant_of at))
timestamp-of v at e = ap (λ (r : Result Local Refused). as_timestamp (and_then r (λ (l : Local). instant_if_any (instant_of l)))) e

conversions-kept : (v w : MuxanduDateTime) (o : ℤ) → date_time_to_offset v o ≡ Ok w
    → (w.offset_seconds ≡ o) × (timestamp_from_date_time w ≡ timestamp_from_date_time v)
conversions-kept v w o e =
    let c = conversions-date_time v w o e in
    let at = c.0 in (
      c.1.3,
      timestamp-of w (local_at (instant_of at) o) c.1.1
          ∙ ap (λ (i : ℤ). as_timestamp (instant_if_any i)) (instant_of-local_at (instant_of at) o) ∙ sym (timestamp-of v at c.1.0),
    )

conversions-back : (v w : MuxanduDateTime) (o : ℤ) → date_time_to_offset v o ≡ Ok w → date_time_to_offset w v.offset_seconds ≡ Ok v
conversions-back v w o e =
    let c = conversions-date_time v w o e in
    let at = c.0 in
    let read = date_time_value-ok v at c.1.0 in
    let offset : at.offset ≡ v.offset_seconds = ap (λ (z : MuxanduDateTime). z.offset_seconds) read.parts in
    let back : local_at (instant_of at) v.offset_seconds ≡ at = ap (local_at (instant_of at)) (sym offset) ∙ local_at-instant_of at in
    ap (λ (r : Result Local Refused). as_date_time (and_then r (λ (l : Local). shown_at_offset (instant_of l) v.offset_seconds))) c.1.1
    ∙ ap (λ (i : ℤ). as_date_time (shown_at_offset i v.offset_seconds)) (instant_of-local_at (instant_of at) o)
    ∙ ap as_date_time (shown-in (instant_of at) v.offset_seconds (rw (← offset) read.range.1) (rw (ap (λ (l : Local). l.wall) back) read.range.0))
    ∙ ap (λ (l : Local). Ok (date_time_parts l)) back ∙ ap (λ (z : MuxanduDateTime). Ok z) read.parts

moment-converted : (v w : MuxanduMoment) (o : ℤ) → moment_to_offset o v ≡ Ok w
    → (i : ℤ) × (IsMomentOf v i × IsOffset o × IsWallClock (shown_at i o) × (moment_parts o i ≡ w))
moment-converted v w o e =
    let at = and_then-ok (and_then (moment_value v) (instant_at o)) (λ (i : ℤ). Ok (moment_parts o i)) w e in
    let step = and_then-ok (moment_value v) (instant_at o) at.0 at.1 in
    let shown = instant_at-ok o step.0 at.0 step.2 in
    (step.0, (moment_value-ok v step.0 step.1, shown.0, shown.1, ap (moment_parts o) shown.2 ∙ same-value _ _ at.2))

moment-kept : (v w : MuxanduMoment) (o : ℤ) → moment_to_offset o v ≡ Ok w → (w.offset_seconds ≡ o) × (timestamp_of_moment w ≡ timestamp_of_moment v)
moment-kept v w o e =
    let c = moment-converted v w o e in (
      ap (λ (m : MuxanduMoment). m.offset_seconds) (sym c.1.3),
      ap timestamp_of_moment (sym c.1.3) ∙ (timestamp_value-ok (timestamp_of_moment v) c.0 c.1.0.value).parts,
    )

moment-at : (w : MuxanduMoment) (i o : ℤ) → w.offset_seconds ≡ o → timestamp_value (timestamp_of_moment w) ≡ Ok i → IsOffset o
    → IsWallClock (shown_at i o) → IsMomentOf w i
moment-at w i o same value offset shown = record { value = value; offset = rw same offset; shown = rw same shown }

moment-back : (v w : MuxanduMoment) (o : ℤ) → moment_to_offset o v ≡ Ok w → moment_to_offset v.offset_seconds w ≡ Ok v
moment-back v w o e =
    let c = moment-converted v w o e in
    let i = c.0 in
    let kept = moment-kept v w o e in
    let there = moment-at w i o kept.0 (ap timestamp_value kept.1 ∙ c.1.0.value) c.1.1 c.1.2 in
    ap (λ (r : Result ℤ Refused). as_moment v.offset_seconds (and_then r (instant_at v.offset_seconds))) (moment_value-in w i there)
    ∙ ap (as_moment v.offset_seconds) (instant_at-in v.offset_seconds i c.1.0.offset c.1.0.shown)
    ∙ ap (λ (t : MuxanduTimestamp). Ok (record { seconds = t.seconds; nanoseconds = t.nanoseconds; offset_seconds = v.offset_seconds }))
    (timestamp_value-ok (timestamp_of_moment v) i c.1.0.value).parts

pub conversions : ConversionsKeepTheInstant
conversions = record { date_time = conversions-kept; date_time_back = conversions-back; moment = moment-kept; moment_back = moment-back }

-- the clamped number
nearest-inside : (i : ℤ) → IsWallClock i → nearest_wall_clock i ≡ i
unfolding nearest_wall_clock
nearest-inside i h = grind (arith, ints, h.0, h.1)

nearest-after : (i : ℤ) → last_wall_clock <ℤ i → nearest_wall_clock i ≡ last_wall_clock
unfolding nearest_wall_clock
nearest-after i h = grind (arith, ints)

nearest-before : (i : ℤ) → i <ℤ first_wall_clock → nearest_wall_clock i ≡ first_wall_clock
unfolding nearest_wall_clock
nearest-before i h = grind (arith, ints)

-- a moved timestamp, clamped
abbrev clamped : (ℤ → ℤ → ℤ) → MuxanduTimestamp → MuxanduDuration → Result MuxanduTimestamp Refused
clamped move v w = as_timestamp (both (timestamp_value v) (duration_value w) (λ i d. Ok (nearest_wall_clock (move i d))))

clamped-moved : (move : ℤ → ℤ → ℤ) (v u : MuxanduTimestamp) (w : MuxanduDuration) → moved move v w ≡ Ok u → clamped move v w ≡ Ok u
clamped-moved move v u w e =
    let step = moved-ok move v u w e in
    ap as_timestamp (both-in (timestamp_value v) (duration_value w) (λ i d. Ok (nearest_wall_clock (move i d))) step.0 step.1 step.2.value step.2.duration)
    ∙ ap (λ (i : ℤ). Ok (timestamp_parts i)) (nearest-inside _ step.2.range) ∙ ap (λ (z : MuxanduTimestamp). Ok z) step.2.is

-- the end that a clamped sum is
clamped-at : (move : ℤ → ℤ → ℤ) (v : MuxanduTimestamp) (w : MuxanduDuration) (i d end : ℤ) → timestamp_value v ≡ Ok i → duration_value w ≡ Ok d
    → nearest_wall_clock (move i d) ≡ end → clamped move v w ≡ Ok (timestamp_parts end)
clamped-at move v w i d end e f at =
    ap as_timestamp (both-in (timestamp_value v) (duration_value w) (λ i d. Ok (nearest_wall_clock (move i d))) i d e f)
    ∙ ap (λ (z : ℤ). Ok (timestamp_parts z)) at

pub saturating_sums : SaturatingSumsEndInRange
saturating_sums = record {
  sum = clamped-moved (λ i d. i +ℤ d);
  difference = clamped-moved (λ i d. i -ℤ d);
  sum_after = λ v w i d e f h. clamped-at (λ i d. i +ℤ d) v w i d _ e f (nearest-after (i +ℤ d) h);
  sum_before = λ v w i d e f h. clamped-at (λ i d. i +ℤ d) v w i d _ e f (nearest-before (i +ℤ d) h);
  difference_after = λ v w i d e f h. clamped-at (λ i d. i -ℤ d) v w i d _ e f (nearest-after (i -ℤ d) h);
  difference_before = λ v w i d e f h. clamped-at (λ i d. i -ℤ d) v w i d _ e f (nearest-before (i -ℤ d) h);
}

-- the same of a date-time
abbrev date_time_clamped : (ℤ → ℤ → ℤ) → MuxanduDateTime → MuxanduDuration → Result MuxanduDateTime Refused
date_time_clamped move v w =
    as_date_time (both (date_time_value v) (duration_value w) (λ at d. Ok (wall_at (nearest_wall_clock (move at.wall d)) at.offset)))

date_time_clamped-at : (move : ℤ → ℤ → ℤ) (v : MuxanduDateTime) (w : MuxanduDuration) (at : Local) (d end : ℤ) → date_time_value v ≡ Ok at
    → duration_value w ≡ Ok d → nearest_wall_clock (move at.wall d) ≡ end → date_time_clamped move v w ≡ Ok (date_time_parts (wall_at end at.offset))
date_time_clamped-at move v w at d end e f is =
    ap as_date_time (both-in (date_time_value v) (duration_value w) (λ at d. Ok (wall_at (nearest_wall_clock (move at.wall d)) at.offset)) at d e f)
    ∙ ap (λ (z : ℤ). Ok (date_time_parts (wall_at z at.offset))) is

date_time_clamped-moved : (move : ℤ → ℤ → ℤ) (v u : MuxanduDateTime) (w : MuxanduDuration) → date_time_moved move v w ≡ Ok u
    → date_time_clamped move v w ≡ Ok u
date_time_clamped-moved move v u w e =
    let step = date_time_moved-ok move v u w e in
    date_time_clamped-at move v w step.0 step.1 _ step.2.value step.2.duration (nearest-inside _ step.2.range) ∙ ap (λ (z : MuxanduDateTime). Ok z) step.2.is

pub saturating_date_times : SaturatingDateTimesEndInRange
saturating_date_times = record {
  sum = date_time_clamped-moved (λ i d. i +ℤ d);
  difference = date_time_clamped-moved (λ i d. i -ℤ d);
  sum_after = λ v w at d e f h. date_time_clamped-at (λ i d. i +ℤ d) v w at d _ e f (nearest-after (at.wall +ℤ d) h);
  sum_before = λ v w at d e f h. date_time_clamped-at (λ i d. i +ℤ d) v w at d _ e f (nearest-before (at.wall +ℤ d) h);
  difference_after = λ v w at d e f h. date_time_clamped-at (λ i d. i -ℤ d) v w at d _ e f (nearest-after (at.wall -ℤ d) h);
  difference_before = λ v w at d e f h. date_time_clamped-at (λ i d. i -ℤ d) v w at d _ e f (nearest-before (at.wall -ℤ d) h);
}
