-- The time of day of parts is the only one that has them all.
use Rattle.std.proofs.Common.{◌≡◌, ℕ, ◌%◌, ◌+◌, ◌≤◌, ◌==◌, ◌||◌, ◌&&◌, Bool, true, false, refl, sym, arith, Option, Some, None, Result, Ok, Err}
use Rattle.std.proofs.Common.{inl, inr}
use Rattle.std.specs.Prelude.{IfSome, IfOk, IsTrue, not, nat_lt, is_some, if◌then◌else◌}
use Rattle.std.proofs.lemmas.Bool.{cases_Bool}
use Rattle.std.proofs.lemmas.Bool.Decides.{nat_tests}
use Rattle.calendar_values.specs.Clock.{IsClock, AreTimeParts, clock_of_parts, hour_of, minute_of, second_of, nanosecond_of}
use Rattle.calendar_values.specs.ClockLemmas.{AreTimeParts-of, clock_of_parts-of, hour_of-clock_of_parts, minute_of-clock_of_parts}
use Rattle.calendar_values.specs.ClockLemmas.{second_of-clock_of_parts, nanosecond_of-clock_of_parts}
use Rattle.format_descriptions.specs.ClockValues.{or_zero, HasTimeParts, tells_time, clock_at, clock_of_half, clock_by_half, clock_by, time_of_parts}
use Rattle.format_descriptions.specs.PartTests.{fits, fits_choice}
use Rattle.format_descriptions.specs.Written.{hour_12}
use Rattle.format_descriptions.specs.declared.parts.Parts.{Parts}
use Rattle.format_descriptions.specs.declared.value_refusal.ValueRefusal.{ValueRefusal}
use Rattle.format_descriptions.proofs.DateLemmas.{fits-is, fits_choice-is}
use Rattle.format_descriptions.proofs.PartLemmas.{fits-same, fits_choice-same}

-- an hour whose parts these are is kept
clock_at-only : (p : Parts) (clock : ℕ) → IsClock clock → HasTimeParts p clock → clock_at p (hour_of clock) ≡ Ok clock
unfolding clock_at
clock_at-only p clock is_clock h =
    let time = AreTimeParts-of clock is_clock in
    let hour : nat_lt 23 (hour_of clock) ≡ false = grind (arith, nat_tests, time.hour) in
    let minute : nat_lt 59 (minute_of clock) ≡ false = grind (arith, nat_tests, time.minute) in
    let second : nat_lt 59 (second_of clock) ≡ false = grind (arith, nat_tests, time.second) in
    let nanosecond : nat_lt 999_999_999 (nanosecond_of clock) ≡ false = grind (arith, nat_tests, time.nanosecond) in
    rw (
      hour,
      h.minute,
      minute,
      h.second,
      second,
      h.nanosecond,
      nanosecond,
      fits-same p.hour_12 (hour_12 (hour_of clock)) h.hour_12,
      fits_choice-same p.is_afternoon (not (nat_lt (hour_of clock) 12)) h.is_afternoon,
      clock_of_parts-of clock,
    ) refl

-- the hour of a clock of 12 hours and the half of the day make the hour again
hour-of_half : (hour : ℕ) → hour ≤ 23 → (if not (nat_lt hour 12) then hour_12 hour % 12 + 12 else hour_12 hour % 12) ≡ hour
unfolding hour_12
hour-of_half hour low = grind (arith, nat_tests)

hour_12-in_range : (hour : ℕ) → (hour_12 hour == 0 || nat_lt 12 (hour_12 hour)) ≡ false
unfolding hour_12
hour_12-in_range hour = grind (arith, nat_tests)

clock_of_half-only : (p : Parts) (clock h : ℕ) (b : Bool) → IsClock clock → HasTimeParts p clock → h ≡ hour_12 (hour_of clock)
    → b ≡ not (nat_lt (hour_of clock) 12) → clock_of_half p h b ≡ Ok clock
unfolding clock_of_half
clock_of_half-only p clock h b is_clock has eh eb =
    let time = AreTimeParts-of clock is_clock in
    rw (eh, eb, hour_12-in_range (hour_of clock), hour-of_half (hour_of clock) time.hour) (clock_at-only p clock is_clock has)

clock_by_half-only : (p : Parts) (clock : ℕ) (h : Option ℕ) (b : Option Bool) → IsClock clock → HasTimeParts p clock
    → IfSome h (λ k. k ≡ hour_12 (hour_of clock)) → IfSome b (λ k. k ≡ not (nat_lt (hour_of clock) 12)) → IsTrue (is_some h && is_some b)
    → clock_by_half p h b ≡ Ok clock
clock_by_half-only p clock None b is_clock has eh eb tells = absurd cc
clock_by_half-only p clock (Some h) None is_clock has eh eb tells = absurd cc
clock_by_half-only p clock (Some h) (Some b) is_clock has eh eb tells = clock_of_half-only p clock h b is_clock has eh eb

clock_by-only : (p : Parts) (clock : ℕ) (o : Option ℕ) → IsClock clock → HasTimeParts p clock → IfSome o (λ k. k ≡ hour_of clock)
    → IsTrue (is_some o || (is_some p.hour_12 && is_some p.is_afternoon)) → clock_by p o ≡ Ok clock
clock_by-only p clock None is_clock has eo tells = clock_by_half-only p clock p.hour_12 p.is_afternoon is_clock has has.hour_12 has.is_afternoon tells
clock_by-only p clock (Some h) is_clock has eo tells = rw eo (clock_at-only p clock is_clock has)

-- the only time of day that has these parts is what they are read as
pub time_of_parts-only : (p : Parts) (clock : ℕ) → IsClock clock → IsTrue (tells_time p) → HasTimeParts p clock → time_of_parts p ≡ Ok clock
unfolding time_of_parts
time_of_parts-only p clock is_clock tells has = clock_by-only p clock p.hour is_clock has has.hour tells

-- what an hour is kept as, if its tests have these answers
clock_at-kept : (p : Parts) (clock h : ℕ) (a b c d e f : Bool) → nat_lt 23 h ≡ a → nat_lt 59 (or_zero p.minute) ≡ b → nat_lt 59 (or_zero p.second) ≡ c
    → nat_lt 999_999_999 (or_zero p.nanosecond) ≡ d → fits p.hour_12 (hour_12 h) ≡ e → fits_choice p.is_afternoon (not (nat_lt h 12)) ≡ f
    → clock_at p h ≡ Ok clock → IfSome p.hour (λ known. known ≡ h) → HasTimeParts p clock
unfolding clock_at
clock_at-kept p clock h false false false false true true ha hb hc hd he hf is known =
    let parts : AreTimeParts h (or_zero p.minute) (or_zero p.second) (or_zero p.nanosecond) = record {
      hour = grind (arith, nat_tests, ha);
      minute = grind (arith, nat_tests, hb);
      second = grind (arith, nat_tests, hc);
      nanosecond = grind (arith, nat_tests, hd);
    } in
    let same : clock_of_parts h (or_zero p.minute) (or_zero p.second) (or_zero p.nanosecond) ≡ clock =
    grind (arith, ha, hb, hc, hd, he, hf, is)
    in
    rw (← same) (record {
      hour = rw (hour_of-clock_of_parts h _ _ _ parts) known;
      hour_12 = rw (hour_of-clock_of_parts h _ _ _ parts) (fits-is p.hour_12 _ he);
      is_afternoon = rw (hour_of-clock_of_parts h _ _ _ parts) (fits_choice-is p.is_afternoon _ hf);
      minute = sym (minute_of-clock_of_parts h _ _ _ parts);
      second = sym (second_of-clock_of_parts h _ _ _ parts);
      nanosecond = sym (nanosecond_of-clock_of_parts h _ _ _ parts);
    })
clock_at-kept p clock h true b c d e f ha hb hc hd he hf is known = absurd (grind (arith, ha, is))
clock_at-kept p clock h false true c d e f ha hb hc hd he hf is known = absurd (grind (arith, ha, hb, is))
clock_at-kept p clock h false false true d e f ha hb hc hd he hf is known = absurd (grind (arith, ha, hb, hc, is))
clock_at-kept p clock h false false false true e f ha hb hc hd he hf is known = absurd (grind (arith, ha, hb, hc, hd, is))
clock_at-kept p clock h false false false false false f ha hb hc hd he hf is known = absurd (grind (arith, ha, hb, hc, hd, he, is))
clock_at-kept p clock h false false false false true false ha hb hc hd he hf is known = absurd (grind (arith, ha, hb, hc, hd, he, hf, is))

clock_at-has : (p : Parts) (clock h : ℕ) → clock_at p h ≡ Ok clock → IfSome p.hour (λ known. known ≡ h) → HasTimeParts p clock
clock_at-has p clock h is known = clock_at-kept p clock h _ _ _ _ _ _ refl refl refl refl refl refl is known

clock_of_half-has : (p : Parts) (clock h : ℕ) (b : Bool) → p.hour ≡ None → clock_of_half p h b ≡ Ok clock → HasTimeParts p clock
unfolding clock_of_half
clock_of_half-has p clock h b none is = elim (cases_Bool (h == 0 || nat_lt 12 h)) [
  | inl t ↦ let e = rw t at is in absurd cc
  | inr f ↦ clock_at-has p clock (if b then h % 12 + 12 else h % 12) (rw f at is) (rw none tt)
]

clock_by_half-has : (p : Parts) (clock : ℕ) (h : Option ℕ) (b : Option Bool) → p.hour ≡ None → clock_by_half p h b ≡ Ok clock → HasTimeParts p clock
clock_by_half-has p clock None b none is = absurd cc
clock_by_half-has p clock (Some h) None none is = absurd cc
clock_by_half-has p clock (Some h) (Some b) none is = clock_of_half-has p clock h b none is

clock_by-has : (p : Parts) (clock : ℕ) (o : Option ℕ) → p.hour ≡ o → clock_by p o ≡ Ok clock → HasTimeParts p clock
clock_by-has p clock None none is = clock_by_half-has p clock p.hour_12 p.is_afternoon none is
clock_by-has p clock (Some h) same is = clock_at-has p clock h is (rw same refl)

time-has : (p : Parts) (r : Result ℕ ValueRefusal) → time_of_parts p ≡ r → IfOk r (λ clock. HasTimeParts p clock)
unfolding time_of_parts
time-has p (Ok clock) e = clock_by-has p clock p.hour refl e
time-has p (Err refusal) e = tt

-- what parts are read as has them all
pub time_of_parts-has : (p : Parts) → IfOk (time_of_parts p) (λ clock. HasTimeParts p clock)
time_of_parts-has p = time-has p (time_of_parts p) refl
