-- A text of 20 bytes or more, by its first 19; and the parts that its numbers make.
use Rattle.std.proofs.Common.{◌≡◌, ℕ, ◌+◌, ◌-◌, ◌*◌, ◌≤◌, List, [], ◌∷◌, length, get_or, take, drop, Option, Some, None, Result, Ok, Err}
use Rattle.std.proofs.Common.{refl, sym, ap, ◌∙◌, arith, true, false, cond, nat_lt, Bool, ℤ, pos}
use Rattle.std.specs.Prelude.{◌||◌, ◌&&◌, ◌==◌, IfSome}
use Rattle.std.specs.Char.{is_ascii_digit}
use Rattle.std.proofs.lemmas.Bool.{eqb-true, le-leb}
use Rattle.std.proofs.lemmas.Bool.Decides.{nat_tests}
use Rattle.std.proofs.lemmas.List.{drop_more, drop_all, take_rest}
use Rattle.calendar_values.specs.Calendar.{is_leap_year, days_in_month, day_of_calendar_date}
use Rattle.calendar_values.specs.Clock.{clock_of_parts}
use Rattle.calendar_values.specs.Constructors.{calendar_date, clock_time_nano, clock_with}
use Rattle.calendar_values.specs.Offsets.{offset_of_seconds}
use Rattle.calendar_values.specs.Range.{is_outside, first_year, last_year}
use Rattle.calendar_values.specs.Refusals.{Refusal}
use Rattle.calendar_values.specs.WallClock.{wall_clock}
use Rattle.lanes.specs.MinuteTexts.{IsMinuteText}
use Rattle.offset_times.specs.Local.{Local, wall_at}
use Rattle.rfc3339.specs.Meaning.{meaning, value_of, offset_of, AreInRange}
use Rattle.rfc3339.specs.MeaningLemmas.{meaning-in_range}
use Rattle.rfc3339.specs.Reading.{digit_at, two_digits_at, mark_at, part_at, year_at, separator_at, fraction_at, zone_at, front_at, parts_at, parts_read}
use Rattle.rfc3339.specs.TextLemmas.{parts_takes}
use Rattle.rfc3339.specs.Walls.{fraction_on, parts_on}
use Rattle.rfc3339.specs.declared.parts.Parts.{Parts}
use Rattle.muxandu_c.specs.Answers.{and_then, as_refused}
use Rattle.muxandu_c.specs.UtcTexts.{IsUtc}
use Rattle.muxandu_c.specs.Values.{month_value, date_value, date_time_value}
use Rattle.muxandu_c.specs.WallTexts.{spelled_parts}
use Rattle.muxandu_c.specs.declared.refused.Refused.{Refused}

-- ---- the first 19 bytes

abbrev pub number : ℕ → ℕ → ℕ
number tens units = (tens - 48) * 10 + (units - 48)

is_digit : (b : ℕ) → (48 ≤ b) × (b ≤ 57) → is_ascii_digit b ≡ true
is_digit b h = rw (le-leb _ _ h.0, le-leb _ _ h.1) refl

and-parts : (t u : Bool) → t && u ≡ true → (t ≡ true) × (u ≡ true)
and-parts true u e = (refl, e)
and-parts false u e = grind (arith, nat_tests)

abbrev nineteen : List ℕ → List ℕ
nineteen t =
    get_or t 0 0 ∷ get_or t 1 0 ∷ get_or t 2 0 ∷ get_or t 3 0 ∷ get_or t 4 0 ∷ get_or t 5 0 ∷ get_or t 6 0 ∷ get_or t 7 0 ∷ get_or t 8 0 ∷ get_or t 9 0 ∷
    get_or t 10 0 ∷ get_or t 11 0 ∷ get_or t 12 0 ∷ get_or t 13 0 ∷ get_or t 14 0 ∷ get_or t 15 0 ∷ get_or t 16 0 ∷ get_or t 17 0 ∷
    get_or t 18 0 ∷ drop 19 t

next : (t rest : List ℕ) (k : ℕ) → k + 1 ≤ length t → drop (k + 1) t ≡ rest → drop k t ≡ get_or t k 0 ∷ rest
next t rest k low e = drop_more t k 0 (omega (arith, low)) ∙ ap (λ (z : List ℕ). get_or t k 0 ∷ z) e

pub nineteen-same : (t : List ℕ) → 20 ≤ length t → t ≡ nineteen t
nineteen-same t long =
    next t _ 0 (omega arith) (next t _ 1 (omega arith) (next t _ 2 (omega arith) (next t _ 3 (omega arith) (next t _ 4 (omega arith)
    (next t _ 5 (omega arith) (next t _ 6 (omega arith) (next t _ 7 (omega arith) (next t _ 8 (omega arith) (next t _ 9 (omega arith)
    (next t _ 10 (omega arith) (next t _ 11 (omega arith) (next t _ 12 (omega arith) (next t _ 13 (omega arith) (next t _ 14 (omega arith)
    (next t _ 15 (omega arith) (next t _ 16 (omega arith) (next t _ 17 (omega arith) (next t _ 18 (omega arith) refl))))))))))))))))))

abbrev pub wall_of : List ℕ → Parts
wall_of t = record {
  year = number (get_or t 0 0) (get_or t 1 0) * 100 + number (get_or t 2 0) (get_or t 3 0);
  month = number (get_or t 5 0) (get_or t 6 0);
  day = number (get_or t 8 0) (get_or t 9 0);
  hour = number (get_or t 11 0) (get_or t 12 0);
  minute = number (get_or t 14 0) (get_or t 15 0);
  second = number (get_or t 17 0) (get_or t 18 0);
  nanosecond = 0;
  is_west = false;
  offset_hour = 0;
  offset_minute = 0;
}

-- what 14 digits and the bytes between them spell, before what follows
spelled : (a b c d e f g h i j k l m n : ℕ) (rest : List ℕ) → is_ascii_digit a ≡ true → is_ascii_digit b ≡ true → is_ascii_digit c ≡ true →
    is_ascii_digit d ≡ true → is_ascii_digit e ≡ true → is_ascii_digit f ≡ true → is_ascii_digit g ≡ true → is_ascii_digit h ≡ true →
    is_ascii_digit i ≡ true → is_ascii_digit j ≡ true → is_ascii_digit k ≡ true → is_ascii_digit l ≡ true → is_ascii_digit m ≡ true →
    is_ascii_digit n ≡ true →
    front_at (a ∷ b ∷ c ∷ d ∷ 45 ∷ e ∷ f ∷ 45 ∷ g ∷ h ∷ 84 ∷ i ∷ j ∷ 58 ∷ k ∷ l ∷ 58 ∷ m ∷ n ∷ rest) ≡ fraction_on (record {
      year = number a b * 100 + number c d;
      month = number e f;
      day = number g h;
      hour = number i j;
      minute = number k l;
      second = number m n;
      nanosecond = 0;
      is_west = false;
      offset_hour = 0;
      offset_minute = 0;
    }) rest
unfolding front_at year_at two_digits_at digit_at mark_at part_at separator_at
spelled a b c d e f g h i j k l m n rest da db dc dd de df dg dh di dj dk dl dm dn = rw (da, db, dc, dd, de, df, dg, dh, di, dj, dk, dl, dm, dn) refl

pub front_at-wall : (t : List ℕ) → 20 ≤ length t → IsMinuteText (take 16 t) →
    get_or t 16 0 == 58 && (is_ascii_digit (get_or t 17 0) && is_ascii_digit (get_or t 18 0)) ≡ true → front_at t ≡ fraction_on (wall_of t) (drop 19 t)
front_at-wall t long form second =
    let written = nineteen-same t long in
    let minute = rw written at form in
    let first = and-parts _ _ second in
    let last = and-parts _ _ first.1 in
    rw (written, minute.after_year, minute.after_month, minute.after_day, minute.after_hour, eqb-true (get_or t 16 0) 58 first.0)
    (spelled (get_or t 0 0) (get_or t 1 0) (get_or t 2 0) (get_or t 3 0) (get_or t 5 0) (get_or t 6 0) (get_or t 8 0) (get_or t 9 0)
    (get_or t 11 0) (get_or t 12 0) (get_or t 14 0) (get_or t 15 0) (get_or t 17 0) (get_or t 18 0) (drop 19 t)
    (is_digit _ minute.century.tens) (is_digit _ minute.century.ones) (is_digit _ minute.year.tens) (is_digit _ minute.year.ones)
    (is_digit _ minute.month.tens) (is_digit _ minute.month.ones) (is_digit _ minute.day.tens) (is_digit _ minute.day.ones)
    (is_digit _ minute.hour.tens) (is_digit _ minute.hour.ones) (is_digit _ minute.minute.tens) (is_digit _ minute.minute.ones) last.0 last.1)

-- ---- what follows them

pub parts_at-wall : (text : List ℕ) (p : Parts) (o : Option Parts) → front_at text ≡ fraction_on p (drop 19 text)
    → o ≡ parts_on p (take (length text - 19) (drop 19 text)) → IfSome o (λ q. parts_at text ≡ Some q)
unfolding parts_at
parts_at-wall text p None e f = tt
parts_at-wall text p (Some q) e f = rw e (sym (rw (take_rest text 19) at f))

pub year-read : (text : List ℕ) (o : Option Parts) → IfSome o (λ q. parts_at text ≡ Some q) → IfSome o (λ q. q.year ≤ 9_999)
year-read text None e = tt
year-read text (Some q) e = let read = parts_takes text q e in omega (arith, read.fits.year)

-- a `Z` alone: the numbers stay as they are
same-numbers : (y mo d h mi s n n' : ℕ) (w w' : Bool) (oh oh' om om' : ℕ) → n ≡ n' → w ≡ w' → oh ≡ oh' → om ≡ om'
    → parts_read y mo d h mi s n (w, oh, om) ≡ parts_read y mo d h mi s n' (w', oh', om')
same-numbers y mo d h mi s n n' w w' oh oh' om om' e f g i = rw (e, f, g, i) refl

utc-same : (p : Parts) → IsUtc p → parts_read p.year p.month p.day p.hour p.minute p.second 0 (false, 0, 0) ≡ p
utc-same p h =
    same-numbers p.year p.month p.day p.hour p.minute p.second 0 p.nanosecond false p.is_west 0 p.offset_hour 0 p.offset_minute
    (sym h.nanosecond) (sym h.east) (sym h.offset_hour) (sym h.offset_minute)

on-utc : (p : Parts) → parts_on p (90 ∷ []) ≡ Some (parts_read p.year p.month p.day p.hour p.minute p.second 0 (false, 0, 0))
unfolding fraction_at mark_at zone_at
on-utc p = refl

parts_at-utc : (text : List ℕ) (p : Parts) → length text ≡ 20 → get_or text 19 0 ≡ 90 → IsUtc p → front_at text ≡ fraction_on p (drop 19 text)
    → parts_at text ≡ Some p
unfolding parts_at
parts_at-utc text p long end h e =
    let last : drop 19 text ≡ 90 ∷ [] = next text [] 19 (omega (arith, long)) (drop_all 20 text (omega (arith, long))) ∙ ap (λ (z : ℕ). z ∷ []) end in
    rw e (rw last (on-utc p ∙ ap (λ (q : Parts). Some q) (utc-same p h)))

pub parts_at-utc_if : (text : List ℕ) (o : Option Parts) → length text ≡ 20 → get_or text 19 0 ≡ 90 → IfSome o IsUtc
    → IfSome o (λ p. front_at text ≡ fraction_on p (drop 19 text)) → IfSome o (λ p. parts_at text ≡ Some p)
parts_at-utc_if text None long end h e = tt
parts_at-utc_if text (Some p) long end h e = parts_at-utc text p long end h e

-- ---- what the numbers mean

guard : {A D : Type 0} (b : Bool) (d : D) (r : Result A D) (x : A) → Ok x ≡ cond b (Err d) r → (b ≡ false) × (Ok x ≡ r)
guard true d r x e = absurd cc
guard false d r x e = (refl, e)

came-from : {A B : Type 0} (r : Result A Refused) (next : A → Result B Refused) (y : B) → Ok y ≡ and_then r next → (x : A) × (Ok x ≡ r) × (Ok y ≡ next x)
came-from (Ok x) next y e = (x, refl, e)
came-from (Err refusal) next y e = absurd cc

accepted : {A : Type 0} (r : Result A Refusal) (x : A) → Ok x ≡ as_refused r → Ok x ≡ r
accepted (Ok y) x e = cc
accepted (Err refusal) x e = absurd cc

same-Ok : {A D : Type 0} (x y : A) → ◌≡◌ {A = Result A D} (Ok x) (Ok y) → x ≡ y
same-Ok x y e = cc

clock-ok : (h m s n c : ℕ) → Ok c ≡ clock_time_nano h m s n → (h ≤ 23) × (m ≤ 59) × (s ≤ 59) × (c ≡ clock_of_parts h m s n)
unfolding clock_with
clock-ok h m s n c e =
    let parts = guard (nat_lt 23 h || (nat_lt 59 m || (nat_lt 59 s || nat_lt 999_999_999 n))) _ _ c e in
    (grind (arith, nat_tests, parts.0), grind (arith, nat_tests, parts.0), grind (arith, nat_tests, parts.0), same-Ok _ _ parts.1)

month-ok : (m month : ℕ) → Ok month ≡ month_value m → (1 ≤ m) × (m ≤ 12) × (month ≡ m)
month-ok m month e =
    let parts = guard (m == 0 || nat_lt 12 m) _ _ month e in
    (grind (arith, nat_tests, parts.0), grind (arith, nat_tests, parts.0), same-Ok _ _ parts.1)

day-ok : (y : ℤ) (m d : ℕ) (n : ℤ) → Ok n ≡ calendar_date y m d → (1 ≤ d) × (d ≤ days_in_month (is_leap_year y) m) × (n ≡ day_of_calendar_date y m d)
unfolding calendar_date
day-ok y m d n e =
    let parts = guard (is_outside first_year last_year y || (d == 0 || nat_lt (days_in_month (is_leap_year y) m) d)) _ _ n e in
    (grind (arith, nat_tests, parts.0), grind (arith, nat_tests, parts.0), same-Ok _ _ parts.1)

offset-ok : (s o : ℤ) → Ok o ≡ offset_of_seconds s → o ≡ s
unfolding offset_of_seconds
offset-ok s o e = same-Ok _ _ (guard _ _ _ o e).1

value-of : (p : Parts) (at : Local) (n : ℤ) (c : ℕ) (o : ℤ) → at ≡ wall_at (wall_clock n c) o → n ≡ day_of_calendar_date (pos p.year) p.month p.day
    → c ≡ clock_of_parts p.hour p.minute p.second p.nanosecond → o ≡ offset_of p.is_west p.offset_hour p.offset_minute → at ≡ value_of p
value-of p at n c o e f g h = rw (f, g, h) at e

-- the value of the parts is what the numbers mean
pub meaning-value : (p : Parts) (at : Local) → p.offset_hour ≤ 23 → p.offset_minute ≤ 59 → Ok at ≡ date_time_value (spelled_parts p) → meaning p ≡ Ok at
meaning-value p at hour minute e =
    let date = came-from (date_value (pos p.year) p.month p.day) _ at e in
    let clock = came-from (as_refused (clock_time_nano p.hour p.minute p.second p.nanosecond)) _ at date.2 in
    let offset = came-from (as_refused (offset_of_seconds (offset_of p.is_west p.offset_hour p.offset_minute))) _ at clock.2 in
    let month = came-from (month_value p.month) (λ (m : ℕ). as_refused (calendar_date (pos p.year) m p.day)) date.0 date.1 in
    let m = month-ok p.month month.0 month.1 in
    let day' = rw m.2 at month.2 in
    let d = day-ok (pos p.year) p.month p.day date.0 (accepted _ _ day') in
    let c = clock-ok p.hour p.minute p.second p.nanosecond clock.0 (accepted _ _ clock.1) in
    let o = offset-ok _ offset.0 (accepted _ _ offset.1) in
    let ranges : AreInRange p = record {
      month_first = m.0;
      month_last = m.1;
      day_first = d.0;
      day_last = d.1;
      hour = c.0;
      minute = c.1;
      second = c.2;
      offset_hour = hour;
      offset_minute = minute;
    } in
    let value = value-of p at date.0 clock.0 offset.0 (same-Ok _ _ offset.2) d.2 c.3 o in
    meaning-in_range p ranges ∙ ap (λ (l : Local). Ok l) (sym value)
