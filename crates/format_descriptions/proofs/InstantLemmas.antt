-- The instant of counts has them all.
use Rattle.std.proofs.Common.{◌≡◌, ◌||◌, ℕ, false, refl, arith, ℤ, pos, negsuc, ◌+ℤ◌, ◌*ℤ◌, ◌≤ℤ◌, ◌%◌}
use Rattle.std.proofs.Common.{Option, None, Some, Result, Ok, Err, inl, inr}
use Rattle.std.proofs.lemmas.Int.{ints}
use Rattle.calendar_values.specs.SignedArith.{signed_arith}
use Rattle.calendar_values.specs.WallClock.{IsInstant, first_wall_clock, last_wall_clock, unix_seconds_of, wall_time}
use Rattle.stamp_times.specs.Instants.{unix_nanosecond_of, unix_milliseconds_of, unix_microseconds_of}
use Rattle.format_descriptions.proofs.PartLemmas.{fits-same, fits_signed-same}
use Rattle.std.specs.Prelude.{IfOk, IfSome, IsTrue, is_some, codes}
use Rattle.std.proofs.lemmas.Bool.{cases_Bool, and_parts}
use Rattle.calendar_values.specs.Range.{is_outside}
use Rattle.calendar_values.specs.Refusals.{Refusal}
use Rattle.utc_times.specs.UnixTime.{instant_or_refusal}
use Rattle.format_descriptions.specs.InstantValues.{HasInstantParts, unix_nanoseconds, wrong_instant, instant_with, counted_instant}
use Rattle.format_descriptions.specs.InstantValues.{instant_of_counts, or_no_count, tells_instant}
use Rattle.format_descriptions.specs.ClockValues.{or_zero}
use Rattle.format_descriptions.specs.declared.modifiers.UnixPrecision.{UnixPrecision}
use Rattle.format_descriptions.specs.declared.modifiers.UnixPrecision.TheVariants.{Seconds, Milliseconds, Microseconds, Nanoseconds}
use Rattle.format_descriptions.specs.declared.value_refusal.Field.TheVariants.{UnixSecond, UnixMillisecond, UnixMicrosecond, UnixNanosecond}
use Rattle.format_descriptions.specs.declared.parts.Parts.{Parts}
use Rattle.format_descriptions.specs.declared.value_refusal.Field.{Field}
use Rattle.format_descriptions.specs.declared.value_refusal.ValueRefusal.{ValueRefusal}
use Rattle.format_descriptions.proofs.DateLemmas.{fits-is, fits_signed-is, or_wrong-none, day_unless-none}

HasInstantParts-of : (p : Parts) (i : ℤ) → wrong_instant p i ≡ None → HasInstantParts p i
unfolding wrong_instant
HasInstantParts-of p i none =
    let second = or_wrong-none _ _ _ none in
    let millisecond = or_wrong-none _ _ _ second.1 in
    let microsecond = or_wrong-none _ _ _ millisecond.1 in
    let nanosecond = or_wrong-none _ _ _ microsecond.1 in
    let subsecond = or_wrong-none _ _ _ nanosecond.1 in
    record {
      second = fits_signed-is p.unix_second _ second.0;
      millisecond = fits_signed-is p.unix_millisecond _ millisecond.0;
      microsecond = fits_signed-is p.unix_microsecond _ microsecond.0;
      nanosecond = fits_signed-is p.unix_nanosecond _ nanosecond.0;
      subsecond = fits-is p.nanosecond _ subsecond.0;
    }

instant_with-has : (p : Parts) (i : ℤ) (wrong : Field) (r : Result ℤ Refusal) → instant_with p wrong r ≡ Ok i → HasInstantParts p i
instant_with-has p i wrong (Ok other) is =
    let both = day_unless-none i other (wrong_instant p other) is in rw (← both.1) (HasInstantParts-of p other both.0)
instant_with-has p i wrong (Err refusal) is = absurd cc

counted-has : (p : Parts) (i : ℤ) (wrong : Field) (precision : UnixPrecision) (more : ℕ) (n : ℤ)
    → counted_instant p wrong precision more n ≡ Ok i → HasInstantParts p i
unfolding counted_instant
counted-has p i wrong precision more n is =
    elim (cases_Bool (is_outside (negsuc 99_999_999_999_999_999_999_998) (pos 99_999_999_999_999_999_999_999) n)) [
      | inl t ↦ let e = rw t at is in absurd cc
      | inr f ↦ instant_with-has p i wrong (instant_or_refusal (codes "nanoseconds") (unix_nanoseconds precision n +ℤ pos more)) (rw f at is)
    ]

counts-has : (p : Parts) (i : ℤ) → instant_of_counts p ≡ Ok i → HasInstantParts p i
unfolding instant_of_counts
counts-has p i is = elim (cases_Bool (is_some p.unix_nanosecond)) [
  | inl t ↦ counted-has p i _ _ _ _ (rw t at is)
  | inr f ↦ elim (cases_Bool (is_some p.unix_microsecond)) [
    | inl t ↦ counted-has p i _ _ _ _ (rw (f, t) at is)
    | inr g ↦ elim (cases_Bool (is_some p.unix_millisecond)) [
      | inl t ↦ counted-has p i _ _ _ _ (rw (f, g, t) at is)
      | inr k ↦ elim (cases_Bool (is_some p.unix_second)) [
        | inl t ↦ counted-has p i _ _ _ _ (rw (f, g, k, t) at is)
        | inr l ↦ let e = rw (f, g, k, l) at is in absurd cc
      ]
    ]
  ]
]

has : (p : Parts) (r : Result ℤ ValueRefusal) → instant_of_counts p ≡ r → IfOk r (λ i. HasInstantParts p i)
has p (Ok i) e = counts-has p i e
has p (Err refusal) e = tt

-- what counts are read as has them all
pub instant_of_counts-has : (p : Parts) → IfOk (instant_of_counts p) (λ i. HasInstantParts p i)
instant_of_counts-has p = has p (instant_of_counts p) refl

-- an instant that has all counts is kept
wrong_instant-none : (p : Parts) (i : ℤ) → HasInstantParts p i → wrong_instant p i ≡ None
unfolding wrong_instant
wrong_instant-none p i h =
    rw (
      fits_signed-same p.unix_second _ h.second,
      fits_signed-same p.unix_millisecond _ h.millisecond,
      fits_signed-same p.unix_microsecond _ h.microsecond,
      fits_signed-same p.unix_nanosecond _ h.nanosecond,
      fits-same p.nanosecond _ h.subsecond,
    ) refl

inside_range : (first last n : ℤ) → first ≤ℤ n → n ≤ℤ last → is_outside first last n ≡ false
inside_range first last n low high = grind (arith, ints)

counted-only : (p : Parts) (i : ℤ) (wrong : Field) (precision : UnixPrecision) (more : ℕ) (n : ℤ) → IsInstant i → HasInstantParts p i
    → negsuc 99_999_999_999_999_999_999_998 ≤ℤ n → n ≤ℤ pos 99_999_999_999_999_999_999_999 → unix_nanoseconds precision n +ℤ pos more ≡ i
    → counted_instant p wrong precision more n ≡ Ok i
unfolding counted_instant instant_or_refusal
counted-only p i wrong precision more n here has low high e =
    rw (
      inside_range (negsuc 99_999_999_999_999_999_999_998) (pos 99_999_999_999_999_999_999_999) n low high,
      e,
      inside_range first_wall_clock last_wall_clock i here.0 here.1,
      wrong_instant-none p i has,
    ) refl

-- counts below the range of numbers with 23 digits
seconds_near : (i : ℤ) → IsInstant i → (negsuc 99_999_999_999_999_999_999_998 ≤ℤ unix_seconds_of i) × (unix_seconds_of i ≤ℤ pos 99_999_999_999_999_999_999_999)
seconds_near i h = (omega (arith, signed_arith, h.0, h.1), omega (arith, signed_arith, h.0, h.1))

milliseconds_near : (i : ℤ) → IsInstant i
    → (negsuc 99_999_999_999_999_999_999_998 ≤ℤ unix_milliseconds_of i) × (unix_milliseconds_of i ≤ℤ pos 99_999_999_999_999_999_999_999)
milliseconds_near i h = (omega (arith, signed_arith, h.0, h.1), omega (arith, signed_arith, h.0, h.1))

microseconds_near : (i : ℤ) → IsInstant i
    → (negsuc 99_999_999_999_999_999_999_998 ≤ℤ unix_microseconds_of i) × (unix_microseconds_of i ≤ℤ pos 99_999_999_999_999_999_999_999)
microseconds_near i h = (omega (arith, signed_arith, h.0, h.1), omega (arith, signed_arith, h.0, h.1))

-- a count and the nanosecond of the second together
second_again : (i : ℤ) → unix_seconds_of i *ℤ pos 1_000_000_000 +ℤ pos (unix_nanosecond_of i) ≡ i
unfolding wall_time
second_again i = omega (arith, signed_arith)

millisecond_again : (i : ℤ) → unix_milliseconds_of i *ℤ pos 1_000_000 +ℤ pos (unix_nanosecond_of i % 1_000_000) ≡ i
unfolding wall_time
millisecond_again i = omega (arith, signed_arith)

microsecond_again : (i : ℤ) → unix_microseconds_of i *ℤ pos 1_000 +ℤ pos (unix_nanosecond_of i % 1_000) ≡ i
unfolding wall_time
microsecond_again i = omega (arith, signed_arith)

by_nanoseconds : (p : Parts) (i : ℤ) (known : Option ℤ) → IsInstant i → HasInstantParts p i → IfSome known (λ n. n ≡ i) → IsTrue (is_some known)
    → counted_instant p UnixNanosecond Nanoseconds 0 (or_no_count known) ≡ Ok i
by_nanoseconds p i None here has e some = absurd cc
by_nanoseconds p i (Some n) here has e some =
    counted-only p i _ Nanoseconds 0 n here has
    (omega (arith, signed_arith, e, here.0, here.1))
    (omega (arith, signed_arith, e, here.0, here.1))
    (omega (arith, signed_arith, e))

by_microseconds : (p : Parts) (i : ℤ) (known : Option ℤ) (fraction : Option ℕ) → IsInstant i → HasInstantParts p i
    → IfSome known (λ n. n ≡ unix_microseconds_of i) → IfSome fraction (λ k. k ≡ unix_nanosecond_of i) → IsTrue (is_some known) → IsTrue (is_some fraction)
    → counted_instant p UnixMicrosecond Microseconds (or_zero fraction % 1_000) (or_no_count known) ≡ Ok i
by_microseconds p i None fraction here has e f some told = absurd cc
by_microseconds p i (Some n) None here has e f some told = absurd cc
by_microseconds p i (Some n) (Some k) here has e f some told =
    let near = microseconds_near i here in
    rw (e, f) (counted-only p i _ Microseconds _ _ here has near.0 near.1 (microsecond_again i))

by_milliseconds : (p : Parts) (i : ℤ) (known : Option ℤ) (fraction : Option ℕ) → IsInstant i → HasInstantParts p i
    → IfSome known (λ n. n ≡ unix_milliseconds_of i) → IfSome fraction (λ k. k ≡ unix_nanosecond_of i) → IsTrue (is_some known) → IsTrue (is_some fraction)
    → counted_instant p UnixMillisecond Milliseconds (or_zero fraction % 1_000_000) (or_no_count known) ≡ Ok i
by_milliseconds p i None fraction here has e f some told = absurd cc
by_milliseconds p i (Some n) None here has e f some told = absurd cc
by_milliseconds p i (Some n) (Some k) here has e f some told =
    let near = milliseconds_near i here in
    rw (e, f) (counted-only p i _ Milliseconds _ _ here has near.0 near.1 (millisecond_again i))

by_seconds : (p : Parts) (i : ℤ) (known : Option ℤ) (fraction : Option ℕ) → IsInstant i → HasInstantParts p i
    → IfSome known (λ n. n ≡ unix_seconds_of i) → IfSome fraction (λ k. k ≡ unix_nanosecond_of i) → IsTrue (is_some known) → IsTrue (is_some fraction)
    → counted_instant p UnixSecond Seconds (or_zero fraction) (or_no_count known) ≡ Ok i
by_seconds p i None fraction here has e f some told = absurd cc
by_seconds p i (Some n) None here has e f some told = absurd cc
by_seconds p i (Some n) (Some k) here has e f some told =
    let near = seconds_near i here in
    rw (e, f) (counted-only p i _ Seconds _ _ here has near.0 near.1 (second_again i))

-- the instant that parts tell is what they are read as
pub instant_of_counts-only : (p : Parts) (i : ℤ) → IsInstant i → IsTrue (tells_instant p) → HasInstantParts p i → instant_of_counts p ≡ Ok i
unfolding instant_of_counts
instant_of_counts-only p i here tells has = elim (cases_Bool (is_some p.unix_nanosecond)) [
  | inl t ↦ rw t (by_nanoseconds p i p.unix_nanosecond here has has.nanosecond t)
  | inr f ↦ elim (cases_Bool (is_some p.nanosecond)) [
    | inr none ↦
        let coarser = is_some p.unix_microsecond || (is_some p.unix_millisecond || is_some p.unix_second) in
        let both = and_parts coarser (is_some p.nanosecond) (rw f at tells) in
        let e = rw none at both.1 in absurd cc
    | inl told ↦ elim (cases_Bool (is_some p.unix_microsecond)) [
      | inl t ↦ rw (f, t) (by_microseconds p i p.unix_microsecond p.nanosecond here has has.microsecond has.subsecond t told)
      | inr g ↦ elim (cases_Bool (is_some p.unix_millisecond)) [
        | inl t ↦ rw (f, g, t) (by_milliseconds p i p.unix_millisecond p.nanosecond here has has.millisecond has.subsecond t told)
        | inr k ↦ elim (cases_Bool (is_some p.unix_second)) [
          | inl t ↦ rw (f, g, k, t) (by_seconds p i p.unix_second p.nanosecond here has has.second has.subsecond t told)
          | inr l ↦ let e = rw (f, g, k, l) at tells in absurd cc
        ]
      ]
    ]
  ]
]
