-- What the calls of each type say in the counter's words.
use Rattle.std.proofs.Common.{◌≡◌, ℕ, refl, sym, arith, FitsSigned, w32, to_z, of_z, to_z-of_z, ℤ}
use Rattle.std.proofs.Common.{Option, Some, None, SomeIff, Result, Ok, Err, OkIff, IfErr, IsOk, ap, ◌↔◌}
use Rattle.std.specs.Option.{option_map}
use Rattle.std.specs.Result.{result_map_both}
use Rattle.calendar_values.specs.Calendar.{month_of, day_of_month_of}
use Rattle.calendar_values.specs.Dates.{IsCalendarDateOf, IsIsoWeekDateOf}
use Rattle.calendar_values.specs.Month.{month_number}
use Rattle.calendar_values.specs.Outcomes.{Outcome, IsOneAnswer, within}
use Rattle.calendar_values.specs.OutcomeLemmas.{IsOneAnswer-within, IsOneAnswer-calendar_date, IsOneAnswer-month}
use Rattle.calendar_values.specs.OutcomeLemmas.{IsOneAnswer-day, IsOneAnswer-ordinal, IsOneAnswer-at_most}
use Rattle.calendar_values.specs.Refusals.{Refusal}
use Rattle.calendar_values.specs.SignedArith.{signed_arith}
use Rattle.calendar_values.specs.WallClock.{wall_day, IsWallClock}
use Rattle.calendar_values.specs.WallClockLemmas.{IsDay-wall_day}
use Rattle.calendar_values.specs.Weekday.{weekday_number}
use Rattle.calendar_values.specs.declared.month.Month.{Month}
use Rattle.calendar_values.specs.declared.weekday.Weekday.{Weekday}
use Rattle.offset_times.specs.Local.{Local, wall_at}
use Rattle.plain_times.specs.Replacements.{with_date, with_time}
use Rattle.plain_times.specs.SumLemmas.{wall_clock_if_any-in, wall_clock_if_any-SomeIff}
use Rattle.plain_times.specs.Sums.{wall_clock_if_any}
use Rattle.stamp_times.specs.Counter.{local_reply, date_part_of, instant_after_replacement, IsReplaceable, RefusesReplaced}
use Rattle.stamp_times.specs.Numbered.{month_numbered, weekday_numbered}
use Rattle.stamp_times.specs.NumberedLemmas.{month_numbered-number, weekday_numbered-number}
use Rattle.stamp_times.specs.declared.runs.calls.DatePart.TheVariants as date_part
use Rattle.stamp_times.specs.declared.runs.calls.DateRead.TheVariants as date_read
use Rattle.stamp_times.specs.declared.runs.calls.Replace.{Replace}
use Rattle.stamp_times.specs.declared.runs.calls.Replace.TheVariants as replacing
use Rattle.stamp_times.specs.declared.runs.calls.Reply.TheVariants.{Refused}

-- an accepted sum and a refused one, in the counter's words
pub shifted-SomeIff : (r : Option ℤ) (w : ℤ) → SomeIff r (IsWallClock w) w → option_map (λ i. i) r ≡ wall_clock_if_any w
shifted-SomeIff None w h = wall_clock_if_any-SomeIff None w h
shifted-SomeIff (Some x) w h = wall_clock_if_any-SomeIff (Some x) w h

-- a replacement as it is
pub replaced-as_is : (r s : Result ℤ Refusal) → r ≡ s → result_map_both (λ i. i) (λ refusal. refusal) r ≡ s
replaced-as_is (Ok x) s e = e
replaced-as_is (Err x) s e = e

pub ruleset moves = (shifted-SomeIff, replaced-as_is)

-- what a conversion to an offset replies, accepted and refused
pub local_reply-accepted : (at : Local) (w o : ℤ) → SomeIff (Some at) (IsWallClock w) (wall_at w o) →
    local_reply at.offset (Some at.wall) ≡ local_reply o (wall_clock_if_any w)
local_reply-accepted at w o h = rw (h.1, wall_clock_if_any-in w h.0) refl

pub local_reply-refused : (w o : ℤ) → SomeIff None (IsWallClock w) (wall_at w o) → Refused ≡ local_reply o (wall_clock_if_any w)
local_reply-refused w o h = ap (local_reply o) (wall_clock_if_any-SomeIff None w h)

-- a month and a day of the week are those of their numbers
pub month_numbered-is : (m : Month) (k : ℕ) → month_number m ≡ k → m ≡ month_numbered k
month_numbered-is m k e = rw (← e) (sym (month_numbered-number m))

pub weekday_numbered-is : (d : Weekday) (k : ℕ) → weekday_number d ≡ k → d ≡ weekday_numbered k
weekday_numbered-is d k e = rw (← e) (sym (weekday_numbered-number d))

-- the parts of a date, as they are read
pub CalendarDate-is : (n : ℤ) (date : ℤ × Month × ℕ) → IsCalendarDateOf n date →
    date_part.CalendarDate (to_z w32 (of_z w32 date.0), date.1, date.2) ≡ date_part_of n date_read.CalendarDate
CalendarDate-is n date h =
    let fits : FitsSigned w32 date.0 = omega (arith, signed_arith, h.year_in_range) in
    rw (to_z-of_z fits, h.year, month_numbered-is _ _ h.month, h.day) refl

pub IsoWeekDate-is : (n : ℤ) (date : ℤ × ℕ × Weekday) → IsIsoWeekDateOf n date →
    date_part.IsoWeekDate (to_z w32 (of_z w32 date.0), date.1, date.2) ≡ date_part_of n date_read.IsoWeekDate
IsoWeekDate-is n date h =
    let fits : FitsSigned w32 date.0 = omega (arith, signed_arith, h.year_in_range) in
    rw (to_z-of_z fits, h.year, h.week, weekday_numbered-is _ _ h.weekday) refl

-- an answer is accepted exactly where the arguments fit
accepted-fits : (r : Result ℤ Refusal) (P : Type 0) (v : ℤ) → OkIff r P v → IsOk r ↔ P
accepted-fits (Ok x) P v h = (λ ok. h.0, λ fits. refl)
accepted-fits (Err e) P v h = (λ ok. absurd cc, λ fits. absurd (h fits))

on_date : (i : ℤ) (outcome : Outcome ℤ) → IsOneAnswer outcome → let whole = within (with_date i) outcome in
    (IsOk whole.answer ↔ whole.fits) × IfErr whole.answer (λ refusal. refusal ≡ whole.refusal)
on_date i outcome h = let whole = IsOneAnswer-within (with_date i) outcome h in (accepted-fits _ _ _ whole.value, whole.refused)

at_time : (i : ℤ) (outcome : Outcome ℕ) → IsOneAnswer outcome → let whole = within (with_time i) outcome in
    (IsOk whole.answer ↔ whole.fits) × IfErr whole.answer (λ refusal. refusal ≡ whole.refusal)
at_time i outcome h = let whole = IsOneAnswer-within (with_time i) outcome h in (accepted-fits _ _ _ whole.value, whole.refused)

-- a replacement is accepted exactly where it fits, and else refused by its name
answered : (i : ℤ) (replace : Replace) → IsWallClock i → let r = instant_after_replacement i replace in
    (IsOk r ↔ IsReplaceable i replace) × IfErr r (RefusesReplaced i replace)
answered i (replacing.Time c) range = ((λ ok. tt, λ fits. refl), tt)
answered i (replacing.Date n) range = ((λ ok. tt, λ fits. refl), tt)
answered i (replacing.Year y) range = on_date i _ (IsOneAnswer-calendar_date y (month_of (wall_day i)) (day_of_month_of (wall_day i)))
answered i (replacing.Month m) range = on_date i _ (IsOneAnswer-month (wall_day i) (month_number m) (IsDay-wall_day i range))
answered i (replacing.Day d) range = on_date i _ (IsOneAnswer-day (wall_day i) d (IsDay-wall_day i range))
answered i (replacing.Ordinal o) range = on_date i _ (IsOneAnswer-ordinal (wall_day i) o (IsDay-wall_day i range))
answered i (replacing.Hour n) range = at_time i _ (IsOneAnswer-at_most _ _ n _)
answered i (replacing.Minute n) range = at_time i _ (IsOneAnswer-at_most _ _ n _)
answered i (replacing.Second n) range = at_time i _ (IsOneAnswer-at_most _ _ n _)
answered i (replacing.Millisecond n) range = at_time i _ (IsOneAnswer-at_most _ _ n _)
answered i (replacing.Microsecond n) range = at_time i _ (IsOneAnswer-at_most _ _ n _)
answered i (replacing.Nanosecond n) range = at_time i _ (IsOneAnswer-at_most _ _ n _)

-- and so is what is as it
as_it : {T : Type 0} (instant : T → ℤ) (r : Result T Refusal) (s : Result ℤ Refusal) (fits : Type 0) (refused : Refusal → Type 0)
    → result_map_both instant (λ refusal. refusal) r ≡ s → (IsOk s ↔ fits) × IfErr s refused → (IsOk r ↔ fits) × IfErr r refused
as_it instant (Ok x) s fits refused e h = let here = rw (← e) at h in ((λ ok. here.0.0 refl, λ f. refl), tt)
as_it instant (Err x) s fits refused e h = let here = rw (← e) at h in ((λ ok. absurd cc, λ f. let ok = here.0.1 f in absurd cc), here.1)

pub replaced-answered : {T : Type 0} (instant : T → ℤ) (r : Result T Refusal) (i : ℤ) (replace : Replace) → IsWallClock i
    → result_map_both instant (λ refusal. refusal) r ≡ instant_after_replacement i replace
    → (IsOk r ↔ IsReplaceable i replace) × IfErr r (RefusesReplaced i replace)
replaced-answered instant r i replace range e = as_it instant r _ _ _ e (answered i replace range)
