-- Bytes that are put at the front of others, one piece after another.
use Rattle.std.proofs.Common.{◌≡◌, ◌≤◌, ◌<◌, ℕ, pos, Bool, true, false, nat_eq, ◌&&◌, ◌+◌, ◌*◌, ◌/◌, ◌%◌, List, [], ◌∷◌, ◌++◌, length, take, drop, refl}
use Rattle.std.proofs.Common.{sym, ap, ◌∙◌, arith, append_assoc, append-nil, length-append}
use Rattle.std.proofs.Common.{unsigned_abs}
use Rattle.std.proofs.lemmas.Bool.Decides.{nat_tests}
use Rattle.std.proofs.lemmas.List.{take_at, drop_at, drop-drop, take-append-drop}
use Rattle.std.specs.Prelude.{codes, int_lt, if◌then◌else◌}
use Rattle.calendar_values.specs.Calendar.{day_of_calendar_date, IsCalendarDate}
use Rattle.calendar_values.specs.CalendarDateLemmas.{year_of-calendar_date, month_of-calendar_date, day_of_month_of-calendar_date}
use Rattle.calendar_values.specs.Clock.{AreTimeParts, clock_of_parts}
use Rattle.calendar_values.specs.ClockLemmas.{IsClock-clock_of_parts, hour_of-clock_of_parts, minute_of-clock_of_parts, second_of-clock_of_parts}
use Rattle.calendar_values.specs.ClockLemmas.{nanosecond_of-clock_of_parts}
use Rattle.calendar_values.specs.Digits.{last_digits}
use Rattle.calendar_values.specs.DigitCountLemmas.{length-last_digits}
use Rattle.calendar_values.specs.SignedArith.{signed_arith}
use Rattle.calendar_values.specs.WallClockLemmas.{wall_day-wall_clock, wall_time-wall_clock}
use Rattle.stamp_times.specs.Texts.{fraction_text}
use Rattle.rfc3339.specs.Meaning.{AreInRange, offset_of, value_of}
use Rattle.rfc3339.specs.Texts.{time_offset_text, rfc3339_text}
use Rattle.rfc3339.specs.Walls.{wall_text}
use Rattle.rfc3339.specs.declared.parts.Parts.{Parts}

-- a piece behind those that were put before
pub put_next : (front more old before after : List ℕ) (place end : ℕ) → before ≡ front ++ drop place old → length front ≡ place
    → after ≡ take place before ++ more ++ drop end before → end ≡ place + length more
    → after ≡ (front ++ more) ++ drop end old
put_next front more old before after place end e size f g =
    let kept : take place before ≡ front = rw e (take_at front (drop place old) place size) in
    let left : drop place before ≡ drop place old = rw e (drop_at front (drop place old) place size) in
    let rest : drop end before ≡ drop end old =
    rw g (sym (drop-drop (length more) place before) ∙ ap (drop (length more)) left ∙ drop-drop (length more) place old) in
    f ∙ rw (kept, rest) refl

-- no bytes at all
pub put_none : (bytes : List ℕ) (place : ℕ) → bytes ≡ take place bytes ++ [] ++ drop place bytes
put_none bytes place = rw (append-nil (take place bytes)) (sym (take-append-drop place bytes))

-- ---- an offset

pub size_of_offset : (is_west : Bool) (hour minute : ℕ) → unsigned_abs (offset_of is_west hour minute) ≡ hour * 3_600 + minute * 60
size_of_offset true hour minute = omega (arith, signed_arith)
size_of_offset false hour minute = refl

sign_of_offset : (is_west : Bool) (hour minute : ℕ) → 0 < hour + minute → int_lt (offset_of is_west hour minute) (pos 0) ≡ is_west
sign_of_offset true hour minute low = grind (arith, signed_arith)
sign_of_offset false hour minute low = grind (arith, signed_arith)

pub no_offset_text : (is_west : Bool) (hour minute : ℕ) → (nat_eq hour 0 && nat_eq minute 0) ≡ true
    → time_offset_text (offset_of is_west hour minute) ≡ codes "Z"
unfolding time_offset_text
no_offset_text is_west hour minute e =
    let none : nat_eq (unsigned_abs (offset_of is_west hour minute)) 0 ≡ true = grind (arith, nat_tests, size_of_offset is_west hour minute) in
    rw none refl

some : (hour minute : ℕ) → (nat_eq hour 0 && nat_eq minute 0) ≡ false → 0 < hour + minute
some hour minute e = grind (arith, nat_tests)

pub some_offset_text : (is_west : Bool) (hour minute : ℕ) → (nat_eq hour 0 && nat_eq minute 0) ≡ false → hour ≤ 23 → minute ≤ 59
    → time_offset_text (offset_of is_west hour minute)
    ≡ (if is_west then codes "-" else codes "+") ++ last_digits 2 hour ++ codes ":" ++ last_digits 2 minute
unfolding time_offset_text
some_offset_text is_west hour minute e h m =
    let low = some hour minute e in
    let size = size_of_offset is_west hour minute in
    let not_utc : nat_eq (unsigned_abs (offset_of is_west hour minute)) 0 ≡ false = grind (arith, nat_tests, size, low) in
    let hours : unsigned_abs (offset_of is_west hour minute) / 3_600 ≡ hour = omega (arith, size) in
    let minutes : unsigned_abs (offset_of is_west hour minute) / 60 % 60 ≡ minute = omega (arith, size) in
    rw (not_utc, sign_of_offset is_west hour minute low, hours, minutes) refl

-- ---- a whole text

-- what the numbers mean shows these numbers
pub text_of_parts : (p : Parts) → AreInRange p → p.nanosecond ≤ 999_999_999
    → rfc3339_text (value_of p) ≡ (wall_text p ++ fraction_text p.nanosecond) ++ time_offset_text (offset_of p.is_west p.offset_hour p.offset_minute)
unfolding rfc3339_text wall_text
text_of_parts p r n =
    let day = day_of_calendar_date (pos p.year) p.month p.day in
    let clock = clock_of_parts p.hour p.minute p.second p.nanosecond in
    let parts : AreTimeParts p.hour p.minute p.second p.nanosecond = omega arith in
    let is_clock = IsClock-clock_of_parts p.hour p.minute p.second p.nanosecond parts in
    let date : IsCalendarDate (pos p.year) p.month p.day = omega arith in
    rw (wall_day-wall_clock day clock is_clock, wall_time-wall_clock day clock is_clock)
    (rw (month_of-calendar_date (pos p.year) p.month p.day date, day_of_month_of-calendar_date (pos p.year) p.month p.day date)
    (rw (year_of-calendar_date (pos p.year) p.month p.day date)
    (rw (hour_of-clock_of_parts p.hour p.minute p.second p.nanosecond parts, minute_of-clock_of_parts p.hour p.minute p.second p.nanosecond parts)
    (rw (second_of-clock_of_parts p.hour p.minute p.second p.nanosecond parts, nanosecond_of-clock_of_parts p.hour p.minute p.second p.nanosecond parts)
    (simp append_assoc refl)))))

pub length-wall_text : (p : Parts) → length (wall_text p) ≡ 19
unfolding wall_text
length-wall_text p = simp (length-append, length-last_digits) refl

-- two digits of the century and two of the year in it
digits_of-year : (y : ℕ) → y ≤ 9_999 → last_digits 2 (y / 100) ++ last_digits 2 (y % 100) ≡ last_digits 4 y
unfolding last_digits
digits_of-year y high = grind arith

-- the date and the time of day, put one part after another
pub put_wall_parts : (p : Parts) (old first second third fourth fifth sixth seventh : List ℕ) → p.year ≤ 9_999
    → first ≡ take 0 old ++ last_digits 2 (p.year / 100) ++ drop 2 old
    → second ≡ take 2 first ++ last_digits 2 (p.year % 100) ++ drop 4 first
    → third ≡ take 4 second ++ (45 ∷ last_digits 2 p.month) ++ drop 7 second
    → fourth ≡ take 7 third ++ (45 ∷ last_digits 2 p.day) ++ drop 10 third
    → fifth ≡ take 10 fourth ++ (84 ∷ last_digits 2 p.hour) ++ drop 13 fourth
    → sixth ≡ take 13 fifth ++ (58 ∷ last_digits 2 p.minute) ++ drop 16 fifth
    → seventh ≡ take 16 sixth ++ (58 ∷ last_digits 2 p.second) ++ drop 19 sixth → seventh ≡ wall_text p ++ drop 19 old
unfolding wall_text last_digits
put_wall_parts p old first second third fourth fifth sixth seventh high e1 e2 e3 e4 e5 e6 e7 =
    let century = last_digits 2 (p.year / 100) in
    let year = last_digits 2 (p.year % 100) in
    let month = 45 ∷ last_digits 2 p.month in
    let day = 45 ∷ last_digits 2 p.day in
    let hour = 84 ∷ last_digits 2 p.hour in
    let minute = 58 ∷ last_digits 2 p.minute in
    let second_of = 58 ∷ last_digits 2 p.second in
    let h1 = put_next [] century old old first 0 2 refl refl e1 refl in
    let h2 = put_next century year old first second 2 4 h1 refl e2 refl in
    let h3 = put_next (century ++ year) month old second third 4 7 h2 refl e3 refl in
    let h4 = put_next ((century ++ year) ++ month) day old third fourth 7 10 h3 refl e4 refl in
    let h5 = put_next (((century ++ year) ++ month) ++ day) hour old fourth fifth 10 13 h4 refl e5 refl in
    let h6 = put_next ((((century ++ year) ++ month) ++ day) ++ hour) minute old fifth sixth 13 16 h5 refl e6 refl in
    let h7 = put_next (((((century ++ year) ++ month) ++ day) ++ hour) ++ minute) second_of old sixth seventh 16 19 h6 refl e7 refl in
    h7 ∙ ap (λ (digits : List ℕ). digits ++ month ++ day ++ hour ++ minute ++ second_of ++ drop 19 old) (digits_of-year p.year high)

-- its pieces, put one after another
pub put_all : (p : Parts) (old first second third : List ℕ) (after_fraction end : ℕ) → AreInRange p → p.nanosecond ≤ 999_999_999
    → first ≡ wall_text p ++ drop 19 old
    → second ≡ take 19 first ++ fraction_text p.nanosecond ++ drop after_fraction first → after_fraction ≡ 19 + length (fraction_text p.nanosecond)
    → third ≡ take after_fraction second ++ time_offset_text (offset_of p.is_west p.offset_hour p.offset_minute) ++ drop end second
    → end ≡ after_fraction + length (time_offset_text (offset_of p.is_west p.offset_hour p.offset_minute))
    → (third ≡ rfc3339_text (value_of p) ++ drop end old) × (end ≡ length (rfc3339_text (value_of p)))
put_all p old first second third after_fraction end r n wall e2 s2 e3 s3 =
    let fraction = fraction_text p.nanosecond in
    let offset = time_offset_text (offset_of p.is_west p.offset_hour p.offset_minute) in
    let nineteen = length-wall_text p in
    let more = put_next (wall_text p) fraction old first second 19 after_fraction wall nineteen e2 s2 in
    let size : length (wall_text p ++ fraction) ≡ after_fraction = omega (arith, length-append (wall_text p) fraction, nineteen, s2) in
    let text = text_of_parts p r n in
    let all = put_next (wall_text p ++ fraction) offset old second third after_fraction end more size e3 s3 in
    (rw text all, rw text (omega (arith, length-append (wall_text p ++ fraction) offset, size, s3)))
