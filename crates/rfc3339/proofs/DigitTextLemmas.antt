-- Texts of so many digits are read as the date-time truncated to the last of them.
use Rattle.std.proofs.Common.{◌≡◌, ℕ, zero, suc, ◌+◌, ◌-◌, ◌*◌, ◌/◌, ◌^◌, ◌≤◌, ◌<◌, inl, inr, true, false, nat_eq, List, [], ◌∷◌, take}
use Rattle.std.proofs.Common.{refl, sym, ap, ◌∙◌, arith, ℤ, pos, Ok}
use Rattle.std.specs.Char.{is_ascii_digit}
use Rattle.std.specs.List.{list_all}
use Rattle.std.proofs.lemmas.Bool.{and_parts}
use Rattle.std.proofs.lemmas.Bool.Decides.{nat_tests}
use Rattle.calendar_values.specs.Calendar.{day_of_calendar_date}
use Rattle.calendar_values.specs.Clock.{nanosecond_of, clock_of_parts}
use Rattle.calendar_values.specs.Digits.{last_digits}
use Rattle.calendar_values.specs.SignedArith.{signed_arith}
use Rattle.calendar_values.specs.WallClock.{wall_clock, wall_time}
use Rattle.offset_times.specs.Local.{Local, local_multiple_below}
use Rattle.plain_times.specs.Truncations.{wall_multiple_below}
use Rattle.rfc3339.specs.declared.parts.Parts.{Parts}
use Rattle.rfc3339.specs.Form.{fraction_value, IsFraction, IsDateTime}
use Rattle.rfc3339.specs.Meaning.{AreInRange, value_of}
use Rattle.rfc3339.specs.MeaningLemmas.{meaning-ok, meaning-in_range}
use Rattle.rfc3339.specs.Reading.{reading_of}
use Rattle.rfc3339.specs.ReadingLemmas.{reading_of-spelled}
use Rattle.rfc3339.specs.Texts.{HasText, parts_of, fraction_of_digits, digits_text, time_offset_text}
use Rattle.rfc3339.specs.ValueLemmas.{IsDateTime-text, IsOffsetText-text, meaning-text}
use Rattle.rfc3339.specs.WrittenDigitLemmas.{last_digits-are}

-- what holds for each number of digits
pub each_of_ten : (P : ℕ → Type 0) → P 0 → P 1 → P 2 → P 3 → P 4 → P 5 → P 6 → P 7 → P 8 → P 9 → (k : ℕ) → k ≤ 9 → P k
each_of_ten P a b c d e f g h i j zero low = a
each_of_ten P a b c d e f g h i j (suc zero) low = b
each_of_ten P a b c d e f g h i j (suc (suc zero)) low = c
each_of_ten P a b c d e f g h i j (suc (suc (suc zero))) low = d
each_of_ten P a b c d e f g h i j (suc (suc (suc (suc zero)))) low = e
each_of_ten P a b c d e f g h i j (suc (suc (suc (suc (suc zero))))) low = f
each_of_ten P a b c d e f g h i j (suc (suc (suc (suc (suc (suc zero)))))) low = g
each_of_ten P a b c d e f g h i j (suc (suc (suc (suc (suc (suc (suc zero))))))) low = h
each_of_ten P a b c d e f g h i j (suc (suc (suc (suc (suc (suc (suc (suc zero)))))))) low = i
each_of_ten P a b c d e f g h i j (suc (suc (suc (suc (suc (suc (suc (suc (suc zero))))))))) low = j
each_of_ten P a b c d e f g h i j (suc (suc (suc (suc (suc (suc (suc (suc (suc (suc k)))))))))) low = absurd (omega arith)

-- ---- a fraction

take-all : (k : ℕ) (digits : List ℕ) → list_all is_ascii_digit digits ≡ true → list_all is_ascii_digit (take k digits) ≡ true
take-all zero digits h = refl
take-all (suc k) [] h = refl
take-all (suc k) (first ∷ digits) h =
    let both = and_parts (is_ascii_digit first) (list_all is_ascii_digit digits) h in rw (both.0, take-all k digits both.1) refl

digit_value-written : (d : ℕ) → 48 + d - 48 ≡ d
digit_value-written d = omega arith

value-cut : (k n : ℕ) → n < 1_000_000_000 → k ≤ 9 → n / 10 ^ (9 - k) * 10 ^ (9 - k) ≡ fraction_value 100_000_000 (take k (last_digits 9 n))
unfolding last_digits fraction_value
value-cut k n low few =
    each_of_ten (λ k. n / 10 ^ (9 - k) * 10 ^ (9 - k) ≡ fraction_value 100_000_000 (take k (last_digits 9 n)))
    (omega arith) (simp digit_value-written (omega arith)) (simp digit_value-written (omega arith))
    (simp digit_value-written (omega arith)) (simp digit_value-written (omega arith)) (simp digit_value-written (omega arith))
    (simp digit_value-written (omega arith)) (simp digit_value-written (omega arith)) (simp digit_value-written (omega arith))
    (simp digit_value-written (omega arith)) k few

pub IsFraction-digits : (k n : ℕ) → n < 1_000_000_000 → k ≤ 9 → IsFraction (fraction_of_digits k n) (n / 10 ^ (9 - k) * 10 ^ (9 - k))
unfolding fraction_of_digits last_digits
IsFraction-digits zero n low few = inl (refl, omega arith)
IsFraction-digits (suc k) n low few =
    let some : nat_eq (suc k) 0 ≡ false = grind (arith, nat_tests) in
    rw some (inr (take (suc k) (last_digits 9 n), refl, omega arith, take-all (suc k) (last_digits 9 n) (last_digits-are 9 n), value-cut (suc k) n low few))

-- ---- a whole text

-- the numbers of the date-time, with the fraction cut
abbrev cut_parts : ℕ → Local → Parts
cut_parts k at =
    let p = parts_of at in
    record {
      year = p.year;
      month = p.month;
      day = p.day;
      hour = p.hour;
      minute = p.minute;
      second = p.second;
      nanosecond = p.nanosecond / 10 ^ (9 - k) * 10 ^ (9 - k);
      is_west = p.is_west;
      offset_hour = p.offset_hour;
      offset_minute = p.offset_minute;
    }

IsDateTime-digits : (k : ℕ) (at : Local) → k ≤ 9 → HasText at → IsDateTime (digits_text k at) (cut_parts k at)
unfolding digits_text
IsDateTime-digits k at few h =
    record {
      separator = 84;
      fraction = fraction_of_digits k (nanosecond_of (wall_time at.wall));
      offset = time_offset_text at.offset;
      spelled = refl;
      is_separator = refl;
      is_fraction = IsFraction-digits k (nanosecond_of (wall_time at.wall)) (omega arith) few;
      is_offset = IsOffsetText-text at.offset;
      fits = omega (arith, (IsDateTime-text at h).fits);
    }

wall-cut : (k : ℕ) (d : ℤ) (h m s n : ℕ) → n < 1_000_000_000 → k ≤ 9
    → wall_clock d (clock_of_parts h m s (n / 10 ^ (9 - k) * 10 ^ (9 - k))) ≡ wall_multiple_below (10 ^ (9 - k)) (wall_clock d (clock_of_parts h m s n))
unfolding wall_multiple_below
wall-cut k d h m s n low few =
    each_of_ten (λ k. wall_clock d (clock_of_parts h m s (n / 10 ^ (9 - k) * 10 ^ (9 - k)))
    ≡ wall_multiple_below (10 ^ (9 - k)) (wall_clock d (clock_of_parts h m s n)))
    (omega (arith, signed_arith)) (omega (arith, signed_arith)) (omega (arith, signed_arith)) (omega (arith, signed_arith))
    (omega (arith, signed_arith)) (omega (arith, signed_arith)) (omega (arith, signed_arith)) (omega (arith, signed_arith))
    (omega (arith, signed_arith)) (omega (arith, signed_arith)) k few

value_of-cut : (k : ℕ) (at : Local) → k ≤ 9 → HasText at → value_of (cut_parts k at) ≡ local_multiple_below (10 ^ (9 - k)) at
value_of-cut k at few h =
    let whole = meaning-ok (parts_of at) at (meaning-text at h) in
    let p = parts_of at in
    let wall = wall-cut k (day_of_calendar_date (pos p.year) p.month p.day) p.hour p.minute p.second p.nanosecond (omega arith) few
    ∙ ap (λ (w : Local). wall_multiple_below (10 ^ (9 - k)) w.wall) (sym whole.1) in
    let offset = ap (λ (w : Local). w.offset) (sym whole.1) in
    rw (wall, offset) refl

pub reading_of-digits : (k : ℕ) (at : Local) → k ≤ 9 → HasText at → reading_of (digits_text k at) ≡ Ok (local_multiple_below (10 ^ (9 - k)) at)
reading_of-digits k at few h =
    let p = parts_of at in
    let r = (meaning-ok p at (meaning-text at h)).0 in
    let ranges : AreInRange (cut_parts k at) = omega (arith, r) in
    reading_of-spelled (digits_text k at) (cut_parts k at) (IsDateTime-digits k at few h)
    ∙ meaning-in_range (cut_parts k at) ranges ∙ ap Ok (value_of-cut k at few h)
