-- A time of day with an offset is one of its two parts after the other.
use Rattle.std.proofs.Common.{◌≡◌, inl, inr, ℕ, ℤ, ◌+◌, ◌<◌, ◌≤◌, Bool, true, false, nat_eq, cond, List, [], ◌∷◌, ◌++◌, length, take, drop}
use Rattle.std.proofs.Common.{append_assoc, append-nil, length-append, Option, Some, None, refl, sym, ap, subst, ◌∙◌, Result, Ok, Err, arith}
use Rattle.std.specs.Prelude.{codes, pos, ◌||◌, nat_lt}
use Rattle.std.specs.Char.{is_ascii_digit}
use Rattle.std.specs.Result.{result_map_both}
use Rattle.std.proofs.Math.Seq.{take-append_seam, drop-append_seam, drop-append-add}
use Rattle.std.proofs.lemmas.Bool.Decides.{nat_tests}
use Rattle.std.proofs.lemmas.List.{take-append-drop}
use Rattle.std.proofs.lemmas.Option.{same_Some}
use Rattle.calendar_values.specs.Calendar.{is_leap_year, days_in_month}
use Rattle.calendar_values.specs.WallClock.{wall_time}
use Rattle.offset_times.specs.Local.{Local}
use Rattle.rfc3339.specs.declared.parts.Parts.{Parts}
use Rattle.rfc3339.specs.declared.refusal.Component.{Component}
use Rattle.rfc3339.specs.declared.refusal.Component.TheVariants.{Month, Day, Hour, Minute, Second, OffsetHour, OffsetMinute}
use Rattle.rfc3339.specs.declared.refusal.TextRefusal.{TextRefusal}
use Rattle.rfc3339.specs.declared.refusal.TextRefusal.TheVariants.{Syntax, OutOfRange}
use Rattle.rfc3339.specs.Form.{IsOffsetText, IsDateTime}
use Rattle.rfc3339.specs.FormLemmas.{bind_some}
use Rattle.rfc3339.specs.FractionLemmas.{zone_takes, zone_again}
use Rattle.rfc3339.specs.Front.{offset_numbers, offset_meaning, offset_reading_of}
use Rattle.rfc3339.specs.Meaning.{meaning, value_of, offset_of}
use Rattle.rfc3339.specs.Reading.{parts_at, parts_read, with_no_rest, reading_of, reading_as}
use Rattle.rfc3339.specs.TextLemmas.{parts_takes, parts_again}
use Rattle.local_texts.specs.LocalFaults.{is_valid_at, valid_bytes}
use Rattle.local_texts.specs.LocalForms.{time_on_date, time_in_utc, time_and_offset, both_readings, meaning_as}
use Rattle.local_texts.proofs.FaultFormLemmas.{some_date, valid_after_date, after_date, valid-form}
use Rattle.local_texts.proofs.FaultLemmas.{AreValid, valid_of}
use Rattle.local_texts.proofs.LocalFormLemmas.{to_second, LocalForm, local_takes, local_again, length-to_second}
use Rattle.local_texts.proofs.CutLemmas.{not_some}
use Rattle.local_texts.proofs.ReadingLemmas.{reading_of-none, reading_as-spelled}

-- the same numbers at an offset
abbrev zoned : Parts → Bool → ℕ → ℕ → Parts
zoned p is_west hour minute = parts_read p.year p.month p.day p.hour p.minute p.second p.nanosecond (is_west, hour, minute)

-- ---- the form

joined : (time offset : List ℕ) (p : Parts) (is_west : Bool) (hour minute : ℕ) → LocalForm (some_date ++ time) p → IsOffsetText offset is_west hour minute
    → hour < 100 → minute < 100 → IsDateTime (some_date ++ time ++ offset) (zoned p is_west hour minute)
joined time offset p is_west hour minute h is low high = record {
  separator = h.separator;
  fraction = h.fraction;
  offset = offset;
  spelled = ap (λ (z : List ℕ). z ++ offset) h.spelled ∙ simp append_assoc refl;
  is_separator = h.is_separator;
  is_fraction = h.is_fraction;
  is_offset = is;
  fits = record {
    year = h.fits.year;
    month = h.fits.month;
    day = h.fits.day;
    hour = h.fits.hour;
    minute = h.fits.minute;
    second = h.fits.second;
    offset_hour = low;
    offset_minute = high;
  };
}

-- the pieces before the offset
front_form : (text : List ℕ) (q : Parts) (h : IsDateTime text q) → LocalForm (to_second q h.separator ++ h.fraction) (zoned q false 0 0)
front_form text q h = record {
  separator = h.separator;
  fraction = h.fraction;
  spelled = refl;
  is_separator = h.is_separator;
  is_fraction = h.is_fraction;
  is_east = refl;
  no_hours = refl;
  no_minutes = refl;
  fits = record {
    year = h.fits.year;
    month = h.fits.month;
    day = h.fits.day;
    hour = h.fits.hour;
    minute = h.fits.minute;
    second = h.fits.second;
    offset_hour = omega arith;
    offset_minute = omega arith;
  };
}

-- the first byte of an offset is valid at no place of a time of day
first_of_offset : (place byte : ℕ) (rest : List ℕ) → 19 ≤ place → is_ascii_digit byte ≡ false → nat_eq byte 46 ≡ false
    → valid_bytes place (byte ∷ rest) ≡ 0
unfolding valid_bytes is_valid_at
first_of_offset place byte rest low no_digit no_point =
    let past : nat_lt place 19 ≡ false = grind (arith, nat_tests) in rw (past, no_digit, no_point) (grind (arith, nat_tests))

none_of_offset : (place : ℕ) (offset : List ℕ) (is_west : Bool) (hour minute : ℕ) → 19 ≤ place → IsOffsetText offset is_west hour minute
    → valid_bytes place offset ≡ 0
none_of_offset place offset is_west hour minute low (inl (inl upper, _, _, _)) = rw upper (first_of_offset place 90 [] low refl refl)
none_of_offset place offset is_west hour minute low (inl (inr lower, _, _, _)) = rw lower (first_of_offset place 122 [] low refl refl)
none_of_offset place offset true hour minute low (inr e) = rw e (first_of_offset place 45 _ low refl refl)
none_of_offset place offset false hour minute low (inr e) = rw e (first_of_offset place 43 _ low refl refl)

valid-then : (place : ℕ) (first second : List ℕ) → AreValid place first
    → valid_bytes place (first ++ second) ≡ length first + valid_bytes (place + length first) second
unfolding valid_bytes
valid-then place [] second a =
    let here : valid_bytes (place + 0) second ≡ valid_bytes place second = ap (λ (n : ℕ). valid_bytes n second) (omega arith) in
    omega (arith, here)
valid-then place (byte ∷ first) second a =
    let head = valid_of place byte first a in
    let more = valid-then (place + 1) first second head.1 in
    let place_next : valid_bytes (place + 1 + length first) second ≡ valid_bytes (place + length {A = ℕ} (byte ∷ first)) second =
    ap (λ (n : ℕ). valid_bytes n second) (omega arith) in
    rw head.0 (omega (arith, more, place_next))

record Halves (text : List ℕ) (q : Parts) (n : ℕ) : Type 0 where
  time : LocalForm (some_date ++ take n text) (zoned q false 0 0)
  offset : IsOffsetText (drop n text) q.is_west q.offset_hour q.offset_minute

halves : (text : List ℕ) (q : Parts) (n : ℕ) → n ≡ valid_bytes 11 text → IsDateTime (some_date ++ text) q → Halves text q n
halves text q n e h =
    let front = to_second q h.separator ++ h.fraction in
    let whole : some_date ++ text ≡ front ++ h.offset = h.spelled ∙ simp append_assoc refl in
    let form = front_form (some_date ++ text) q h in
    let long : 19 ≤ length front = omega (arith, length-append (to_second q h.separator) h.fraction, length-to_second q h.separator) in
    let none = none_of_offset (length front) h.offset q.is_west q.offset_hour q.offset_minute long h.is_offset in
    let after : valid_bytes 0 (front ++ h.offset) ≡ length front =
    valid-then 0 front h.offset (valid-form front (zoned q false 0 0) form)
    ∙ ap (λ (k : ℕ). length front + valid_bytes k h.offset) (omega arith) ∙ ap (λ (k : ℕ). length front + k) none ∙ omega arith in
    let size : 11 + n ≡ length front = omega (arith, e, valid_after_date text, ap (valid_bytes 0) whole ∙ after) in
    let first : some_date ++ take n text ≡ front =
    sym (after_date text n) ∙ ap (λ (k : ℕ). take k (some_date ++ text)) size ∙ ap (take (length front)) whole ∙ take-append_seam front h.offset in
    let second : drop n text ≡ h.offset =
    sym (drop-append-add some_date text n) ∙ ap (λ (k : ℕ). drop k (some_date ++ text)) size ∙ ap (drop (length front)) whole
    ∙ drop-append_seam front h.offset in
    record {
      time = subst (λ (t : List ℕ). LocalForm t (zoned q false 0 0)) (sym first) form;
      offset = subst (λ (t : List ℕ). IsOffsetText t q.is_west q.offset_hour q.offset_minute) (sym second) h.is_offset;
    }

-- ---- the numbers of an offset

ended_some : {A : Type 0} (x y : A) (bytes : List ℕ) → with_no_rest x bytes ≡ Some y → (bytes ≡ []) × (x ≡ y)
ended_some x y [] e = (refl, same_Some x y e)
ended_some x y (first ∷ bytes) e = absurd cc

record OffsetForm (text : List ℕ) (is_west : Bool) (hour minute : ℕ) : Type 0 where
  is : IsOffsetText text is_west hour minute
  hour_fits : hour < 100
  minute_fits : minute < 100

offset_takes : (text : List ℕ) (is_west : Bool) (hour minute : ℕ) → offset_numbers text ≡ Some (is_west, hour, minute)
    → OffsetForm text is_west hour minute
offset_takes text is_west hour minute e =
    let read = bind_some _ _ _ e in
    let end = ended_some read.0.0 (is_west, hour, minute) read.0.1 read.2 in
    let zone = zone_takes text is_west hour minute [] (read.1 ∙ ap (λ (z : Bool × ℕ × ℕ). Some (z, read.0.1)) end.1
    ∙ ap (λ (z : List ℕ). Some ((is_west, hour, minute), z)) end.0) in
    let whole : text ≡ zone.0 = zone.1.parts ∙ append-nil zone.0 in
    record {
      is = subst (λ (t : List ℕ). IsOffsetText t is_west hour minute) (sym whole) zone.1.is;
      hour_fits = zone.1.hour_fits;
      minute_fits = zone.1.minute_fits;
    }

offset_again : (text : List ℕ) (is_west : Bool) (hour minute : ℕ) → IsOffsetText text is_west hour minute → hour < 100 → minute < 100
    → offset_numbers text ≡ Some (is_west, hour, minute)
offset_again text is_west hour minute h low high =
    rw (rw (append-nil text) at (zone_again text is_west hour minute [] h low high)) refl

-- ---- the meaning of the numbers

abbrev time_of : Local → ℕ
time_of at = wall_time at.wall

abbrev mapped : {A : Type 0} → (Local → A) → Result Local TextRefusal → Result A TextRefusal
mapped value r = result_map_both value (λ refusal. refusal) r

abbrev tested : Bool → Bool → ℤ → Result ℤ TextRefusal
tested no_hour no_minute o = cond no_hour (Err (OutOfRange OffsetHour)) (cond no_minute (Err (OutOfRange OffsetMinute)) (Ok o))

through : (no_hour no_minute : Bool) (o : ℤ) (b : Bool) (part : Component) (r s : Result Local TextRefusal)
    → both_readings (mapped time_of r) (tested no_hour no_minute o) ≡ mapped time_and_offset s
    → both_readings (mapped time_of (cond b (Err (OutOfRange part)) r)) (tested no_hour no_minute o) ≡ mapped time_and_offset (cond b (Err (OutOfRange part)) s)
through true no_minute o true part r s h = refl
through false true o true part r s h = refl
through false false o true part r s h = refl
through no_hour no_minute o false part r s h = h

last_guards : (no_hour no_minute : Bool) (o : ℤ) (at here : Local) → time_of at ≡ time_of here → here.offset ≡ o →
    let at_hour : Result Local TextRefusal = Ok at in
    both_readings (mapped time_of at_hour) (tested no_hour no_minute o)
    ≡ mapped time_and_offset (cond no_hour (Err (OutOfRange OffsetHour)) (cond no_minute (Err (OutOfRange OffsetMinute)) (Ok here)))
last_guards true no_minute o at here t e = refl
last_guards false true o at here t e = refl
last_guards false false o at here t e = rw (t, e) refl

both-meaning : (p : Parts) (is_west : Bool) (hour minute : ℕ) → p.offset_hour ≡ 0 → p.offset_minute ≡ 0
    → both_readings (meaning_as time_of p) (offset_meaning (Some (is_west, hour, minute))) ≡ meaning_as time_and_offset (zoned p is_west hour minute)
unfolding meaning
both-meaning p is_west hour minute no_hours no_minutes =
    let no_hour = nat_lt 23 hour in
    let no_minute = nat_lt 59 minute in
    let o = offset_of is_west hour minute in
    let here = value_of (zoned p is_west hour minute) in
    let zoned_at : Result Local TextRefusal = cond no_hour (Err (OutOfRange OffsetHour)) (cond no_minute (Err (OutOfRange OffsetMinute)) (Ok here)) in
    let value : Result Local TextRefusal = Ok (value_of p) in
    let at : Result Local TextRefusal =
    cond (nat_lt 23 p.offset_hour) (Err (OutOfRange OffsetHour)) (cond (nat_lt 59 p.offset_minute) (Err (OutOfRange OffsetMinute)) value) in
    let is_value : at ≡ value = rw (no_hours, no_minutes) refl in
    let no_day = nat_eq p.day 0 || nat_lt (days_in_month (is_leap_year (pos p.year)) p.month) p.day in
    let second : Result Local TextRefusal = cond (nat_lt 59 p.second) (Err (OutOfRange Second)) at in
    let second_too : Result Local TextRefusal = cond (nat_lt 59 p.second) (Err (OutOfRange Second)) zoned_at in
    let minute_of : Result Local TextRefusal = cond (nat_lt 59 p.minute) (Err (OutOfRange Minute)) second in
    let minute_too : Result Local TextRefusal = cond (nat_lt 59 p.minute) (Err (OutOfRange Minute)) second_too in
    let hour_of : Result Local TextRefusal = cond (nat_lt 23 p.hour) (Err (OutOfRange Hour)) minute_of in
    let hour_too : Result Local TextRefusal = cond (nat_lt 23 p.hour) (Err (OutOfRange Hour)) minute_too in
    let day : Result Local TextRefusal = cond no_day (Err (OutOfRange Day)) hour_of in
    let day_too : Result Local TextRefusal = cond no_day (Err (OutOfRange Day)) hour_too in
    let in_offset : both_readings (mapped time_of at) (tested no_hour no_minute o) ≡ mapped time_and_offset zoned_at =
    ap (λ (r : Result Local TextRefusal). both_readings (mapped time_of r) (tested no_hour no_minute o)) is_value
    ∙ last_guards no_hour no_minute o (value_of p) here refl refl in
    let in_second = through no_hour no_minute o (nat_lt 59 p.second) Second at zoned_at in_offset in
    let in_minute = through no_hour no_minute o (nat_lt 59 p.minute) Minute second second_too in_second in
    let in_hour = through no_hour no_minute o (nat_lt 23 p.hour) Hour minute_of minute_too in_minute in
    let in_day = through no_hour no_minute o no_day Day hour_of hour_too in_hour in
    through no_hour no_minute o (nat_eq p.month 0 || nat_lt 12 p.month) Month day day_too in_day

-- ---- the readings

syntax_first : (r : Result ℤ TextRefusal) → both_readings (Err Syntax) r ≡ Err Syntax
syntax_first (Ok o) = refl
syntax_first (Err Syntax) = refl
syntax_first (Err (OutOfRange part)) = refl

offset_reading-numbers : (text : List ℕ) (o : Option (Bool × ℕ × ℕ)) → offset_numbers text ≡ o → offset_reading_of text ≡ offset_meaning o
unfolding offset_reading_of
offset_reading-numbers text o e = ap offset_meaning e

by_numbers : (text : List ℕ) (n : ℕ) (time : Option Parts) (offset : Option (Bool × ℕ × ℕ)) → n ≡ valid_bytes 11 text
    → parts_at (time_in_utc (take n text)) ≡ time → offset_numbers (drop n text) ≡ offset
    → both_readings (reading_as time_of (time_in_utc (take n text))) (offset_reading_of (drop n text)) ≡ reading_as time_and_offset (time_on_date text)
by_numbers text n (Some p) (Some (is_west, hour, minute)) e t o =
    let form = local_takes (some_date ++ take n text) p (parts_takes (time_in_utc (take n text)) p t) in
    let zone = offset_takes (drop n text) is_west hour minute o in
    let apart = joined (take n text) (drop n text) p is_west hour minute form zone.is zone.hour_fits zone.minute_fits in
    let whole : IsDateTime (time_on_date text) (zoned p is_west hour minute) =
    subst (λ (z : List ℕ). IsDateTime (some_date ++ z) (zoned p is_west hour minute)) (take-append-drop n text) apart in
    let first = reading_as-spelled time_of (time_in_utc (take n text)) p (parts_takes (time_in_utc (take n text)) p t) in
    let second = offset_reading-numbers (drop n text) (Some (is_west, hour, minute)) o in
    rw (first, second)
    (both-meaning p is_west hour minute form.no_hours form.no_minutes
    ∙ sym (reading_as-spelled time_and_offset (time_on_date text) (zoned p is_west hour minute) whole))
by_numbers text n None offset e t o =
    let none : (q : Parts) → parts_at (time_on_date text) ≡ Some q → ⊥ = λ q f. (
    let h = halves text q n e (parts_takes (time_on_date text) q f) in
    let again = sym t ∙ parts_again (time_in_utc (take n text)) (zoned q false 0 0) (local_again (some_date ++ take n text) (zoned q false 0 0) h.time) in
    absurd cc
    ) in
    let whole = ap (mapped time_and_offset) (reading_of-none (time_on_date text) (not_some (parts_at (time_on_date text)) none)) in
    rw (reading_of-none (time_in_utc (take n text)) t) (syntax_first (offset_reading_of (drop n text)) ∙ sym whole)
by_numbers text n (Some p) None e t o =
    let none : (q : Parts) → parts_at (time_on_date text) ≡ Some q → ⊥ = λ q f. (
    let is = parts_takes (time_on_date text) q f in
    let h = halves text q n e is in
    let again = sym o ∙ offset_again (drop n text) q.is_west q.offset_hour q.offset_minute h.offset is.fits.offset_hour is.fits.offset_minute in
    absurd cc
    ) in
    let whole = ap (mapped time_and_offset) (reading_of-none (time_on_date text) (not_some (parts_at (time_on_date text)) none)) in
    rw (offset_reading-numbers (drop n text) None o) (sym whole)

pub full_time-halves : (text : List ℕ) (n : ℕ) → n ≡ valid_bytes 11 text
    → both_readings (reading_as (λ at. wall_time at.wall) (time_in_utc (take n text))) (offset_reading_of (drop n text))
    ≡ reading_as time_and_offset (time_on_date text)
full_time-halves text n e = by_numbers text n (parts_at (time_in_utc (take n text))) (offset_numbers (drop n text)) e refl refl
