-- No mark of a gap has a value: the proofs of the laws of `specs/GapLaws.antt`.
use Rattle.std.proofs.Common.{◌≡◌, ◌∙◌, subst, ap, ℤ, pos, Bool, true, false, ◌&&◌, Ok, arith}
use Rattle.std.specs.Ordering.{int_eq}
use Rattle.std.specs.declared.cmp.Ordering.{Ordering}
use Rattle.std.specs.declared.cmp.Ordering.TheVariants.{Less, Equal, Greater}
use Rattle.std.proofs.lemmas.Int.{ints}
use Rattle.calendar_values.specs.Durations.{IsDuration, duration_of_parts}
use Rattle.calendar_values.specs.SignedArith.{signed_arith}
use Rattle.calendar_values.specs.WallClock.{IsInstant, unix_seconds_of}
use Rattle.offset_times.specs.Local.{Local}
use Rattle.muxandu_c.proofs.InversionLemmas.{and_then-ok, timestamp_value-ok, duration_value-ok}
use Rattle.muxandu_c.specs.GapLaws.{GapsHaveNoValues}
use Rattle.muxandu_c.specs.Gaps.{gap, is_gap, is_no_duration, no_duration, no_date_time, no_order}
use Rattle.muxandu_c.specs.Moments.{moment_value, instant_at, timestamp_of_moment}
use Rattle.muxandu_c.specs.Values.{date_time_value, duration_value, timestamp_value, sign_of}
use Rattle.muxandu_c.specs.declared.moments.MuxanduMoment.{MuxanduMoment}
use Rattle.muxandu_c.specs.declared.values.MuxanduDuration.{MuxanduDuration}
use Rattle.muxandu_c.specs.declared.values.MuxanduTimestamp.{MuxanduTimestamp}

int_eq-apart : (m n : ℤ) → ¬ (m ≡ n) → int_eq m n ≡ false
int_eq-apart m n h = grind (arith, ints)

unix_seconds_of-known : (i : ℤ) → IsInstant i → ¬ (unix_seconds_of i ≡ gap.seconds)
unix_seconds_of-known i h = λ same. omega (arith, signed_arith, h.0, same)

moment-known : (v : MuxanduMoment) (i : ℤ) → moment_value v ≡ Ok i → is_gap v ≡ false
moment-known v i e =
    let at = and_then-ok (timestamp_value (timestamp_of_moment v)) (instant_at v.offset_seconds) i e in
    let read = timestamp_value-ok (timestamp_of_moment v) at.0 at.1 in
    let second : unix_seconds_of at.0 ≡ v.seconds = ap (λ (w : MuxanduTimestamp). w.seconds) read.parts in
    int_eq-apart v.seconds gap.seconds (λ same. unix_seconds_of-known at.0 read.range (second ∙ same))

both-false : (a b : Bool) → ((a ≡ true) → b ≡ false) → (a && b) ≡ false
both-false true b h = h cc
both-false false b h = cc

int_eq-same : (m n : ℤ) → int_eq m n ≡ true → m ≡ n
int_eq-same m n h = grind (arith, ints)

duration_of_parts-known : (n : ℤ) → IsDuration (duration_of_parts no_duration.seconds n) → ¬ (n ≡ no_duration.nanoseconds)
duration_of_parts-known n h = λ same. omega (arith, signed_arith, h.1, same)

duration-known : (w : MuxanduDuration) (d : ℤ) → duration_value w ≡ Ok d → is_no_duration w ≡ false
duration-known w d e =
    let read = duration_value-ok w d e in
    let in_range = subst (λ (x : ℤ). IsDuration x) read.sum read.range in
    both-false (int_eq w.seconds no_duration.seconds) (int_eq w.nanoseconds no_duration.nanoseconds) (λ same.
    let second = int_eq-same w.seconds no_duration.seconds same in
    let there = subst (λ (s : ℤ). IsDuration (duration_of_parts s w.nanoseconds)) second in_range in
    int_eq-apart w.nanoseconds no_duration.nanoseconds (duration_of_parts-known w.nanoseconds there))

date_time-none : (at : Local) → ¬ (date_time_value no_date_time ≡ Ok at)
date_time-none at e = absurd cc

order-none : (o : Ordering) → ¬ (sign_of o ≡ no_order)
order-none Less e = absurd cc
order-none Equal e = absurd cc
order-none Greater e = absurd cc

pub gaps : GapsHaveNoValues
gaps = record { moment = moment-known; duration = duration-known; date_time = date_time-none; order = order-none }
