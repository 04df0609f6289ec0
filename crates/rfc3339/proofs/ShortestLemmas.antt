-- No text that is read as a date-time is shorter than the one that is written of it.
use Rattle.std.proofs.Common.{◌≡◌, inl, inr, ℕ, zero, suc, ◌+◌, ◌/◌, ◌%◌, ◌≤◌, ◌<◌, Bool, true, false, nat_eq, List, [], ◌∷◌, length}
use Rattle.std.proofs.Common.{length-append, ap, ◌∙◌, arith, ℤ, pos, Result, Ok, Err, IfOk}
use Rattle.std.specs.Prelude.{codes, ⊤}
use Rattle.std.proofs.lemmas.Bool.{cases_Bool}
use Rattle.std.proofs.lemmas.Bool.Decides.{nat_tests}
use Rattle.calendar_values.specs.Calendar.{day_of_calendar_date}
use Rattle.calendar_values.specs.Clock.{nanosecond_of}
use Rattle.calendar_values.specs.ClockLemmas.{IsClock-clock_of_parts, nanosecond_of-clock_of_parts}
use Rattle.calendar_values.specs.DigitCountLemmas.{length-last_digits, length-fraction_digits}
use Rattle.calendar_values.specs.Digits.{last_digits, fraction_digits}
use Rattle.calendar_values.specs.WallClock.{wall_time}
use Rattle.calendar_values.specs.WallClockLemmas.{wall_time-wall_clock}
use Rattle.offset_times.specs.Local.{Local}
use Rattle.stamp_times.specs.Texts.{fraction_text}
use Rattle.rfc3339.specs.declared.parts.Parts.{Parts}
use Rattle.rfc3339.specs.declared.refusal.TextRefusal.{TextRefusal}
use Rattle.rfc3339.specs.Form.{fraction_value, IsFraction, IsOffsetText, spelling, IsDateTime}
use Rattle.rfc3339.specs.FractionLemmas.{IsFraction-below}
use Rattle.rfc3339.specs.Meaning.{AreInRange, offset_of, value_of}
use Rattle.rfc3339.specs.MeaningLemmas.{ok_is}
use Rattle.rfc3339.specs.Reading.{reading_of}
use Rattle.rfc3339.specs.ReadingLemmas.{reading_of-accepted}
use Rattle.rfc3339.specs.Texts.{rfc3339_text, time_offset_text, parts_of}

-- ---- a fraction

-- so many zeros stand at its end
abbrev EndsInZeros : ℕ → ℕ → Type 0
EndsInZeros zero n = ⊤
EndsInZeros (suc k) n = (n % 10 ≡ 0) × EndsInZeros k (n / 10)

-- and are not written
length-fraction_digits-zeros : (zeros k n : ℕ) → EndsInZeros zeros n → length (fraction_digits (zeros + suc k) n) ≤ suc k
unfolding fraction_digits
length-fraction_digits-zeros zero k n h =
    let none : 0 + suc k ≡ suc k = omega arith in rw none (length-fraction_digits (suc k) n)
length-fraction_digits-zeros (suc zeros) k n h =
    let size : suc zeros + suc k ≡ suc (suc (zeros + k)) = omega arith in
    let less : zeros + suc k ≡ suc (zeros + k) = omega arith in
    let none : nat_eq (n % 10) 0 ≡ true = grind (arith, nat_tests, h.0) in
    let more = rw less at (length-fraction_digits-zeros zeros k (n / 10) h.1) in rw (size, none) more

-- as many digits as are there are enough
length-fraction_digits-value : (digits : List ℕ) → 0 < length digits → length (fraction_digits 9 (fraction_value 100_000_000 digits)) ≤ length digits
unfolding fraction_value
length-fraction_digits-value [] h = absurd (omega arith)
length-fraction_digits-value (a ∷ []) h = length-fraction_digits-zeros 8 0 _ (omega arith)
length-fraction_digits-value (a ∷ b ∷ []) h = length-fraction_digits-zeros 7 1 _ (omega arith)
length-fraction_digits-value (a ∷ b ∷ c ∷ []) h = length-fraction_digits-zeros 6 2 _ (omega arith)
length-fraction_digits-value (a ∷ b ∷ c ∷ d ∷ []) h = length-fraction_digits-zeros 5 3 _ (omega arith)
length-fraction_digits-value (a ∷ b ∷ c ∷ d ∷ e ∷ []) h = length-fraction_digits-zeros 4 4 _ (omega arith)
length-fraction_digits-value (a ∷ b ∷ c ∷ d ∷ e ∷ f ∷ []) h = length-fraction_digits-zeros 3 5 _ (omega arith)
length-fraction_digits-value (a ∷ b ∷ c ∷ d ∷ e ∷ f ∷ g ∷ []) h = length-fraction_digits-zeros 2 6 _ (omega arith)
length-fraction_digits-value (a ∷ b ∷ c ∷ d ∷ e ∷ f ∷ g ∷ i ∷ []) h = length-fraction_digits-zeros 1 7 _ (omega arith)
length-fraction_digits-value (a ∷ b ∷ c ∷ d ∷ e ∷ f ∷ g ∷ i ∷ j ∷ more) h =
    omega (arith, length-fraction_digits 9 (fraction_value 100_000_000 (a ∷ b ∷ c ∷ d ∷ e ∷ f ∷ g ∷ i ∷ j ∷ more)))

shortest_fraction : (text : List ℕ) (n : ℕ) → IsFraction text n → length (fraction_text n) ≤ length text
unfolding fraction_text
shortest_fraction text n (inl none) = rw (none.0, none.1) (omega arith)
shortest_fraction text n (inr some) =
    elim (cases_Bool (nat_eq n 0)) [
      | inl t ↦ rw t (omega arith)
      | inr t ↦ rw (t, some.1, some.4) (omega (
        arith,
        length-append (codes ".") (fraction_digits 9 (fraction_value 100_000_000 some.0)),
        length-append (codes ".") some.0,
        length-fraction_digits-value some.0 some.2,
      ))
    ]

-- ---- an offset

length-time_offset_text : (o : ℤ) → length (time_offset_text o) ≤ 6
unfolding time_offset_text last_digits
length-time_offset_text o = grind (arith, nat_tests)

shortest_offset : (text : List ℕ) (is_west : Bool) (hour minute : ℕ) → IsOffsetText text is_west hour minute
    → length (time_offset_text (offset_of is_west hour minute)) ≤ length text
unfolding time_offset_text last_digits
shortest_offset text is_west hour minute (inl (inl upper, east, hours, minutes)) = rw (upper, east, hours, minutes) (omega arith)
shortest_offset text is_west hour minute (inl (inr lower, east, hours, minutes)) = rw (lower, east, hours, minutes) (omega arith)
shortest_offset text true hour minute (inr e) = rw e (length-time_offset_text (offset_of true hour minute))
shortest_offset text false hour minute (inr e) = rw e (length-time_offset_text (offset_of false hour minute))

-- ---- a whole text

length-spelling : (p : Parts) (separator : ℕ) (fraction offset : List ℕ) → length (spelling p separator fraction offset) ≡ 19 + length fraction + length offset
length-spelling p separator fraction offset = simp (length-append, length-last_digits) (omega arith)

length-written : (at : Local) → length (rfc3339_text at)
    ≡ 19 + length (fraction_text (nanosecond_of (wall_time at.wall))) + length (time_offset_text at.offset)
unfolding rfc3339_text
length-written at = length-spelling (parts_of at) 84 (fraction_text (nanosecond_of (wall_time at.wall))) (time_offset_text at.offset)

shortest_of : (text : List ℕ) (p : Parts) → IsDateTime text p → AreInRange p → length (rfc3339_text (value_of p)) ≤ length text
shortest_of text p h r =
    let below = IsFraction-below h.fraction p.nanosecond h.is_fraction in
    let clock = IsClock-clock_of_parts p.hour p.minute p.second p.nanosecond (omega arith) in
    let nanosecond : nanosecond_of (wall_time (value_of p).wall) ≡ p.nanosecond =
    ap nanosecond_of (wall_time-wall_clock (day_of_calendar_date (pos p.year) p.month p.day) _ clock)
    ∙ nanosecond_of-clock_of_parts p.hour p.minute p.second p.nanosecond (omega arith) in
    let fraction = shortest_fraction h.fraction p.nanosecond h.is_fraction in
    let offset = shortest_offset h.offset p.is_west p.offset_hour p.offset_minute h.is_offset in
    let written = rw nanosecond at (length-written (value_of p)) in
    rw h.spelled (omega (arith, written, fraction, offset, length-spelling p h.separator h.fraction h.offset))

shortest_read : (text : List ℕ) (at : Local) (r : Result Local TextRefusal) → r ≡ Ok at
    → IfOk r (λ at. (p : Parts) × IsDateTime text p × AreInRange p × (at ≡ value_of p)) → length (rfc3339_text at) ≤ length text
shortest_read text at (Err d) e h = absurd cc
shortest_read text at (Ok read) e h =
    let same : at ≡ value_of h.0 = ok_is read at e ∙ h.3 in rw same (shortest_of text h.0 h.1 h.2)

pub shortest : (text : List ℕ) (at : Local) → reading_of text ≡ Ok at → length (rfc3339_text at) ≤ length text
shortest text at e = shortest_read text at (reading_of text) e (reading_of-accepted text)
