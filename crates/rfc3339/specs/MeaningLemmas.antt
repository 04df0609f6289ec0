-- The tests of the ranges.
use Rattle.std.proofs.Common.{◌≡◌, ℕ, ◌+◌, ◌*◌, ◌≤◌, Bool, true, false, cond, nat_eq, nat_lt, List, refl, sym, ap, subst, ◌∙◌, arith, Result, Ok}
use Rattle.std.proofs.Common.{Err, unsigned_abs}
use Rattle.std.specs.Prelude.{◌||◌, pos, IfOk, OkIff}
use Rattle.std.proofs.lemmas.Bool.{ltb-false}
use Rattle.std.proofs.lemmas.Bool.Decides.{nat_tests}
use Rattle.calendar_values.specs.SignedArith.{signed_arith}
use Rattle.calendar_values.specs.Calendar.{is_leap_year, days_in_month, year_of, day_of_calendar_date}
use Rattle.calendar_values.specs.ClockLemmas.{IsClock-clock_of_parts}
use Rattle.calendar_values.specs.CalendarDateLemmas.{year_of-calendar_date}
use Rattle.calendar_values.specs.WallClockLemmas.{wall_day-wall_clock}
use Rattle.offset_times.specs.Local.{Local}
use Rattle.rfc3339.specs.declared.parts.Parts.{Parts}
use Rattle.rfc3339.specs.declared.refusal.TextRefusal.{TextRefusal}
use Rattle.rfc3339.specs.Form.{IsDateTime}
use Rattle.rfc3339.specs.Meaning.{AreInRange, offset_of, value_of, meaning}
use Rattle.rfc3339.specs.Texts.{HasText}

pub meaning-in_range : (p : Parts) → AreInRange p → meaning p ≡ Ok (value_of p)
unfolding meaning
meaning-in_range p h = grind (arith, nat_tests)

guard : (b : Bool) (d : TextRefusal) (r : Result Local TextRefusal) (x : Local) → cond b (Err d) r ≡ Ok x → (b ≡ false) × (r ≡ Ok x)
guard true d r x e = absurd cc
guard false d r x e = (refl, e)

pub ok_is : (x y : Local) → ◌≡◌ {A = Result Local TextRefusal} (Ok x) (Ok y) → y ≡ x
ok_is x y e = cc

pub meaning-ok : (p : Parts) (at : Local) → meaning p ≡ Ok at → AreInRange p × (at ≡ value_of p)
unfolding meaning
meaning-ok p at e =
    let month = guard (nat_eq p.month 0 || nat_lt 12 p.month) _ _ _ e in
    let day = guard (nat_eq p.day 0 || nat_lt (days_in_month (is_leap_year (pos p.year)) p.month) p.day) _ _ _ month.1 in
    let hour = guard (nat_lt 23 p.hour) _ _ _ day.1 in
    let minute = guard (nat_lt 59 p.minute) _ _ _ hour.1 in
    let second = guard (nat_lt 59 p.second) _ _ _ minute.1 in
    let offset_hour = guard (nat_lt 23 p.offset_hour) _ _ _ second.1 in
    let offset_minute = guard (nat_lt 59 p.offset_minute) _ _ _ offset_hour.1 in
    let months : (1 ≤ p.month) × (p.month ≤ 12) = grind (arith, nat_tests, month.0) in
    let days : (1 ≤ p.day) × (p.day ≤ days_in_month (is_leap_year (pos p.year)) p.month) = grind (arith, nat_tests, day.0) in
    (omega (arith, ltb-false, hour.0, minute.0, second.0, offset_hour.0, offset_minute.0), ok_is _ at offset_minute.1)

-- Ok exactly where the numbers are in their ranges
pub accepted_of : (p : Parts) (r : Result Local TextRefusal) → r ≡ meaning p → OkIff r (AreInRange p) (value_of p)
accepted_of p (Ok at) e = let ok = meaning-ok p at (sym e) in (ok.0, ok.1)
accepted_of p (Err d) e = λ h. let bad = e ∙ meaning-in_range p h in absurd cc

pub read_of : (text : List ℕ) (p : Parts) (r : Result Local TextRefusal) → r ≡ meaning p → IsDateTime text p
    → IfOk r (λ at. (q : Parts) × IsDateTime text q × AreInRange q × (at ≡ value_of q))
read_of text p (Ok at) e h = let ok = meaning-ok p at (sym e) in (p, h, ok.0, ok.1)
read_of text p (Err d) e h = tt

-- ---- a value that is read has a text

abs_offset : (is_west : Bool) (hour minute : ℕ) → unsigned_abs (offset_of is_west hour minute) ≡ hour * 3_600 + minute * 60
abs_offset true hour minute = omega (arith, signed_arith)
abs_offset false hour minute = refl

HasText-value : (p : Parts) → AreInRange p → p.nanosecond ≤ 999_999_999 → p.year ≤ 9_999 → HasText (value_of p)
HasText-value p r n y =
    let date = year_of-calendar_date (pos p.year) p.month p.day (omega arith) in
    let clock = IsClock-clock_of_parts p.hour p.minute p.second p.nanosecond (omega arith) in
    let year = ap year_of (wall_day-wall_clock (day_of_calendar_date (pos p.year) p.month p.day) _ clock) in
    let size = abs_offset p.is_west p.offset_hour p.offset_minute in
    omega (arith, signed_arith)

pub has_text_of : (p : Parts) (r : Result Local TextRefusal) → r ≡ meaning p → p.nanosecond ≤ 999_999_999 → p.year ≤ 9_999 → IfOk r HasText
has_text_of p (Ok at) e n y = let ok = meaning-ok p at (sym e) in subst HasText (sym ok.1) (HasText-value p ok.0 n y)
has_text_of p (Err d) e n y = tt
