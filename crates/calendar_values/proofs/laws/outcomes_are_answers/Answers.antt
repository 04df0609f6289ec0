use Rattle.std.proofs.Common.{◌↔◌, ℕ, ◌*◌, ◌≤◌, codes, arith}
use Rattle.calendar_values.specs.Calendar.{month_of, day_of_month_of}
use Rattle.calendar_values.specs.OutcomeLemmas.{IsOneAnswer-calendar_date, IsOneAnswer-ordinal_date, IsOneAnswer-julian_date, IsOneAnswer-clock}
use Rattle.calendar_values.specs.OutcomeLemmas.{IsOneAnswer-offset, IsOneAnswer-offset_seconds, IsOneAnswer-at_most, IsOneAnswer-iso_week_date}
use Rattle.calendar_values.specs.OutcomeLemmas.{IsOneAnswer-month, IsOneAnswer-day, IsOneAnswer-ordinal}
use Rattle.calendar_values.proofs.laws.outcomes_are_answers.Goals as goal

-- so many parts of the second fit exactly where their nanoseconds do
milliseconds : (n : ℕ) → (n ≤ 999) ↔ (n * 1_000_000 ≤ 999_999_999)
milliseconds n = (λ h. omega arith, λ h. omega arith)

microseconds : (n : ℕ) → (n ≤ 999_999) ↔ (n * 1_000 ≤ 999_999_999)
microseconds n = (λ h. omega arith, λ h. omega arith)

pub returns : goal.returns
returns c = record {
  calendar_date = IsOneAnswer-calendar_date;
  ordinal_date = IsOneAnswer-ordinal_date;
  iso_week_date = IsOneAnswer-iso_week_date;
  julian_date = IsOneAnswer-julian_date;
  hms = λ h m s. IsOneAnswer-clock h m s (codes "second") 59 s 0 (λ f. (λ g. omega arith, λ g. f));
  hms_milli = λ h m s n. IsOneAnswer-clock h m s (codes "millisecond") 999 n _ (λ f. milliseconds n);
  hms_micro = λ h m s n. IsOneAnswer-clock h m s (codes "microsecond") 999_999 n _ (λ f. microseconds n);
  hms_nano = λ h m s n. IsOneAnswer-clock h m s (codes "nanosecond") 999_999_999 n _ (λ f. (λ g. g, λ g. g));
  offset = IsOneAnswer-offset;
  offset_seconds = IsOneAnswer-offset_seconds;
  year = λ n y. IsOneAnswer-calendar_date y (month_of n) (day_of_month_of n);
  month = IsOneAnswer-month;
  day = IsOneAnswer-day;
  ordinal = IsOneAnswer-ordinal;
  hour = λ c h. IsOneAnswer-at_most _ _ h _;
  minute = λ c m. IsOneAnswer-at_most _ _ m _;
  second = λ c s. IsOneAnswer-at_most _ _ s _;
  millisecond = λ c n. IsOneAnswer-at_most _ _ n _;
  microsecond = λ c n. IsOneAnswer-at_most _ _ n _;
  nanosecond = λ c n. IsOneAnswer-at_most _ _ n _;
}
