-- Lemmas for callers: which texts are read, the time from a date-time to a later time of the same day, and the first of a month.
use Rattle.std.proofs.Common.{◌≡◌, ℕ, arith, ℤ, pos, ◌-ℤ◌, ◌≤ℤ◌, List, refl, sym, subst, ◌∙◌, Result, Ok, Err, IfOk}
use Rattle.std.proofs.lemmas.Int.{ints}
use Rattle.std.specs.Prelude.{OkIff, IsTrue, ◌↔◌, is_ok}
use Rattle.calendar_values.specs.Calendar.{day_of_calendar_date, day_of_month_of, year_of, month_of}
use Rattle.calendar_values.specs.CalendarDateLemmas.{day_of_calendar_date-of}
use Rattle.calendar_values.specs.Dates.{ShowsDate}
use Rattle.calendar_values.specs.LastDayLemmas.{first_of_month-not_after}
use Rattle.calendar_values.specs.Months.{first_of_month}
use Rattle.calendar_values.specs.WallClock.{wall_day, wall_time}
use Rattle.calendar_values.specs.WallClockLemmas.{wall_clock-parts}
use Rattle.offset_times.specs.Local.{Local, instant_of, SameOffset}
use Rattle.rfc3339.specs.Form.{IsDateTime}
use Rattle.rfc3339.specs.Meaning.{value_of, AreInRange}
use Rattle.rfc3339.specs.MeaningLemmas.{accepted_of}
use Rattle.rfc3339.specs.Reading.{reading_of}
use Rattle.rfc3339.specs.ReadingLemmas.{reading_of-accepted, reading_of-spelled}
use Rattle.rfc3339.specs.declared.parts.Parts.{Parts}
use Rattle.rfc3339.specs.declared.refusal.TextRefusal.{TextRefusal}

-- a result is Ok exactly if its condition is true
pub is_ok-OkIff : {A E : Type 0} (r : Result A E) (P : Type 0) (v : A) → OkIff r P v → IsTrue (is_ok r) ↔ P
is_ok-OkIff (Ok x) P v h = ((λ e. h.0), (λ p. refl))
is_ok-OkIff (Err x) P v h = ((λ e. absurd cc), (λ p. absurd (h p)))

-- a text is read exactly if it spells parts in their ranges
pub is_ok-reading : (text : List ℕ) → IsTrue (is_ok (reading_of text)) ↔ ((p : Parts) × IsDateTime text p × AreInRange p)
is_ok-reading text = (read, is_read) where
  spelled : (r : Result Local TextRefusal) → IsTrue (is_ok r)
      → IfOk r (λ at. (p : Parts) × IsDateTime text p × AreInRange p × (at ≡ value_of p)) → (p : Parts) × IsDateTime text p × AreInRange p
  spelled (Ok at) e h = (h.0, h.1, h.2)
  spelled (Err refusal) e h = absurd cc

  read : IsTrue (is_ok (reading_of text)) → (p : Parts) × IsDateTime text p × AreInRange p
  read e = spelled (reading_of text) e (reading_of-accepted text)

  is_read : ((p : Parts) × IsDateTime text p × AreInRange p) → IsTrue (is_ok (reading_of text))
  is_read h =
      let accepted = accepted_of h.0 (reading_of text) (reading_of-spelled text h.0 h.1) in
      (is_ok-OkIff (reading_of text) (AreInRange h.0) (value_of h.0) accepted).1 h.2

-- a caller who lists `accepted_texts` asks whether a text is read
pub ruleset accepted_texts = (is_ok-OkIff, is_ok-reading)

-- from a date-time to a time of the same day it takes no longer than from midnight to that time
pub left-of_day : (old new : Local) (d : ℤ) (c : ℕ) → d ≡ instant_of new -ℤ instant_of old → SameOffset old new
    → wall_day new.wall ≡ wall_day old.wall → wall_time new.wall ≡ c → d ≤ℤ pos c
left-of_day old new d c e same day time =
    let there = wall_clock-parts new.wall in
    let here = wall_clock-parts old.wall in
    omega (arith, ints, same.1)

-- a caller who lists `left_of_days` asks how long it is to a time of the day
pub ruleset left_of_days = left-of_day

same_date : (y z : ℤ) (m l d k : ℕ) → y ≡ z → m ≡ l → d ≡ k → day_of_calendar_date y m d ≡ day_of_calendar_date z l k
same_date y z m l d k year month day = cc

-- the day that shows the first of the month of a day is not after that day
pub shown_first-not_after : (n d : ℤ) → ShowsDate (year_of n) (month_of n) 1 d → d ≤ℤ n
unfolding first_of_month
shown_first-not_after n d h =
    let there = same_date (year_of d) (year_of n) (month_of d) (month_of n) (day_of_month_of d) 1 h.year h.month h.day in
    let itself : day_of_calendar_date (year_of n) (month_of n) 1 ≡ d = sym there ∙ day_of_calendar_date-of d in
    subst (λ (x : ℤ). x ≤ℤ n) itself (first_of_month-not_after n)

-- a caller who lists `shown_firsts` compares the first of a month with a day of the month
pub ruleset shown_firsts = shown_first-not_after
