-- Parts stay as they are: an item adds parts, and changes none that is known.
use Rattle.std.proofs.Common.{◌≡◌, ℕ, ℤ, Bool, true, false, List, refl, sym, ap, ◌∙◌, ◌&&◌, ◌/◌, ◌%◌, arith, Option, Some, None}
use Rattle.std.specs.Prelude.{is_some}
use Rattle.std.specs.Ordering.{int_eq}
use Rattle.std.proofs.lemmas.Bool.Decides.{nat_tests}
use Rattle.std.proofs.lemmas.Bool.{eqb-true, not-true}
use Rattle.calendar_values.specs.Clock.{minute_of, second_of, nanosecond_of}
use Rattle.rfc3339.specs.FormLemmas.{bind_some}
use Rattle.rfc3339.specs.Reading.{mark_at}
use Rattle.format_descriptions.specs.KeptParts.{part_if, kept_of, parts_kept, Keeps}
use Rattle.format_descriptions.specs.PartTests.{signed, fits, fits_signed, fits_choice}
use Rattle.format_descriptions.specs.Read.{component_at, agrees, with_part, part_given, item_at}
use Rattle.format_descriptions.specs.declared.component.Component.{Component}
use Rattle.format_descriptions.specs.declared.component.Component.TheVariants.{Year, YearCentury, YearLastTwo, Month, MonthName, Day, Ordinal}
use Rattle.format_descriptions.specs.declared.component.Component.TheVariants.{WeekdayName, WeekdayNumber, WeekNumber, Hour, Hour12, Period, Minute}
use Rattle.format_descriptions.specs.declared.component.Component.TheVariants.{Second, Subsecond}
use Rattle.format_descriptions.specs.declared.component.Component.TheVariants.{OffsetHour, OffsetMinute, OffsetSecond, UnixTimestamp, Ignore, End}
use Rattle.format_descriptions.specs.declared.component.Component.TheVariants.{IgnoreWeekday, IgnoreDigits, OffsetWord, YearSince, YearSix}
use Rattle.format_descriptions.specs.declared.component.Component.TheVariants.{HourFraction, MinuteFraction}
use Rattle.format_descriptions.specs.declared.item.Item.{Item}
use Rattle.format_descriptions.specs.declared.item.Item.TheVariants.{Byte, Part, Optional, First, Or}
use Rattle.format_descriptions.specs.declared.modifiers.UnixPrecision.TheVariants.{Seconds, Milliseconds, Microseconds, Nanoseconds}
use Rattle.format_descriptions.specs.declared.modifiers.WeekRule.TheVariants.{Iso, Sunday, Monday}
use Rattle.format_descriptions.specs.declared.modifiers.YearBase.TheVariants.{Calendar, IsoWeek}
use Rattle.format_descriptions.specs.declared.parts.Parts.{Parts}
use Rattle.format_descriptions.proofs.SpelledLemmas.{given-takes}

-- all parts are there yet
known : {T : Type 0} (part : Option T) → part_if (is_some part) part ≡ part
known None = refl
known (Some value) = refl

pub all-known : (p : Parts) → parts_kept (kept_of p) p ≡ p
all-known p = rw (
  known p.year,
  known p.year_century,
  known p.is_before_zero,
  known p.year_last_two,
  known p.iso_year,
  known p.iso_year_century,
  known p.is_iso_before_zero,
  known p.iso_year_last_two,
  known p.month,
  known p.day,
  known p.ordinal,
  known p.weekday,
  known p.iso_week,
  known p.sunday_week,
  known p.monday_week,
  known p.hour,
  known p.hour_12,
  known p.is_afternoon,
  known p.minute,
  known p.second,
  known p.nanosecond,
  known p.is_west,
  known p.offset_hour,
  known p.offset_minute,
  known p.offset_second,
  known p.unix_second,
  known p.unix_millisecond,
  known p.unix_microsecond,
  known p.unix_nanosecond,
) refl

-- a value that fits a part leaves it as it was known
stays-number : (old part : Option ℕ) (n : ℕ) → part_if (is_some old) part ≡ old → fits part n ≡ true → part_if (is_some old) (Some n) ≡ old
stays-number None part n h fit = refl
stays-number (Some m) None n h fit = absurd cc
stays-number (Some m) (Some k) n h fit = rw (← eqb-true k n fit) h

int_eq-is : (a b : ℤ) → int_eq a b ≡ true → a ≡ b
int_eq-is a b e = grind (arith, nat_tests)

stays-signed : (old part : Option ℤ) (n : ℤ) → part_if (is_some old) part ≡ old → fits_signed part n ≡ true → part_if (is_some old) (Some n) ≡ old
stays-signed None part n h fit = refl
stays-signed (Some m) None n h fit = absurd cc
stays-signed (Some m) (Some k) n h fit = rw (← int_eq-is k n fit) h

stays-choice : (old part : Option Bool) (b : Bool) → part_if (is_some old) part ≡ old → fits_choice part b ≡ true → part_if (is_some old) (Some b) ≡ old
stays-choice None part b h fit = refl
stays-choice (Some m) None b h fit = absurd cc
stays-choice (Some m) (Some true) b h fit = rw fit h
stays-choice (Some m) (Some false) b h fit = rw (not-true b fit) h

-- a part of the parts gets a value that fits it
set-year : (old p : Parts) (value : ℤ) → fits_signed p.year value ≡ true → parts_kept (kept_of old) p ≡ old
    → parts_kept (kept_of old) (record p { year = Some value }) ≡ old
set-year old p value fit h =
    ap (λ part. record (parts_kept (kept_of old) p) { year = part })
    (stays-signed old.year p.year value (ap (λ (q : Parts). q.year) h) fit)
    ∙ ap (λ (q : Parts). record q { year = old.year }) h

set-year_century : (old p : Parts) (value : ℕ) → fits p.year_century value ≡ true → parts_kept (kept_of old) p ≡ old
    → parts_kept (kept_of old) (record p { year_century = Some value }) ≡ old
set-year_century old p value fit h =
    ap (λ part. record (parts_kept (kept_of old) p) { year_century = part })
    (stays-number old.year_century p.year_century value (ap (λ (q : Parts). q.year_century) h) fit)
    ∙ ap (λ (q : Parts). record q { year_century = old.year_century }) h

set-is_before_zero : (old p : Parts) (value : Bool) → fits_choice p.is_before_zero value ≡ true → parts_kept (kept_of old) p ≡ old
    → parts_kept (kept_of old) (record p { is_before_zero = Some value }) ≡ old
set-is_before_zero old p value fit h =
    ap (λ part. record (parts_kept (kept_of old) p) { is_before_zero = part })
    (stays-choice old.is_before_zero p.is_before_zero value (ap (λ (q : Parts). q.is_before_zero) h) fit)
    ∙ ap (λ (q : Parts). record q { is_before_zero = old.is_before_zero }) h

set-year_last_two : (old p : Parts) (value : ℕ) → fits p.year_last_two value ≡ true → parts_kept (kept_of old) p ≡ old
    → parts_kept (kept_of old) (record p { year_last_two = Some value }) ≡ old
set-year_last_two old p value fit h =
    ap (λ part. record (parts_kept (kept_of old) p) { year_last_two = part })
    (stays-number old.year_last_two p.year_last_two value (ap (λ (q : Parts). q.year_last_two) h) fit)
    ∙ ap (λ (q : Parts). record q { year_last_two = old.year_last_two }) h

set-iso_year : (old p : Parts) (value : ℤ) → fits_signed p.iso_year value ≡ true → parts_kept (kept_of old) p ≡ old
    → parts_kept (kept_of old) (record p { iso_year = Some value }) ≡ old
set-iso_year old p value fit h =
    ap (λ part. record (parts_kept (kept_of old) p) { iso_year = part })
    (stays-signed old.iso_year p.iso_year value (ap (λ (q : Parts). q.iso_year) h) fit)
    ∙ ap (λ (q : Parts). record q { iso_year = old.iso_year }) h

set-iso_year_century : (old p : Parts) (value : ℕ) → fits p.iso_year_century value ≡ true → parts_kept (kept_of old) p ≡ old
    → parts_kept (kept_of old) (record p { iso_year_century = Some value }) ≡ old
set-iso_year_century old p value fit h =
    ap (λ part. record (parts_kept (kept_of old) p) { iso_year_century = part })
    (stays-number old.iso_year_century p.iso_year_century value (ap (λ (q : Parts). q.iso_year_century) h) fit)
    ∙ ap (λ (q : Parts). record q { iso_year_century = old.iso_year_century }) h

set-is_iso_before_zero : (old p : Parts) (value : Bool) → fits_choice p.is_iso_before_zero value ≡ true → parts_kept (kept_of old) p ≡ old
    → parts_kept (kept_of old) (record p { is_iso_before_zero = Some value }) ≡ old
set-is_iso_before_zero old p value fit h =
    ap (λ part. record (parts_kept (kept_of old) p) { is_iso_before_zero = part })
    (stays-choice old.is_iso_before_zero p.is_iso_before_zero value (ap (λ (q : Parts). q.is_iso_before_zero) h) fit)
    ∙ ap (λ (q : Parts). record q { is_iso_before_zero = old.is_iso_before_zero }) h

set-iso_year_last_two : (old p : Parts) (value : ℕ) → fits p.iso_year_last_two value ≡ true → parts_kept (kept_of old) p ≡ old
    → parts_kept (kept_of old) (record p { iso_year_last_two = Some value }) ≡ old
set-iso_year_last_two old p value fit h =
    ap (λ part. record (parts_kept (kept_of old) p) { iso_year_last_two = part })
    (stays-number old.iso_year_last_two p.iso_year_last_two value (ap (λ (q : Parts). q.iso_year_last_two) h) fit)
    ∙ ap (λ (q : Parts). record q { iso_year_last_two = old.iso_year_last_two }) h

set-month : (old p : Parts) (value : ℕ) → fits p.month value ≡ true → parts_kept (kept_of old) p ≡ old
    → parts_kept (kept_of old) (record p { month = Some value }) ≡ old
set-month old p value fit h =
    ap (λ part. record (parts_kept (kept_of old) p) { month = part })
    (stays-number old.month p.month value (ap (λ (q : Parts). q.month) h) fit)
    ∙ ap (λ (q : Parts). record q { month = old.month }) h

set-day : (old p : Parts) (value : ℕ) → fits p.day value ≡ true → parts_kept (kept_of old) p ≡ old
    → parts_kept (kept_of old) (record p { day = Some value }) ≡ old
set-day old p value fit h =
    ap (λ part. record (parts_kept (kept_of old) p) { day = part })
    (stays-number old.day p.day value (ap (λ (q : Parts). q.day) h) fit)
    ∙ ap (λ (q : Parts). record q { day = old.day }) h

set-ordinal : (old p : Parts) (value : ℕ) → fits p.ordinal value ≡ true → parts_kept (kept_of old) p ≡ old
    → parts_kept (kept_of old) (record p { ordinal = Some value }) ≡ old
set-ordinal old p value fit h =
    ap (λ part. record (parts_kept (kept_of old) p) { ordinal = part })
    (stays-number old.ordinal p.ordinal value (ap (λ (q : Parts). q.ordinal) h) fit)
    ∙ ap (λ (q : Parts). record q { ordinal = old.ordinal }) h

set-weekday : (old p : Parts) (value : ℕ) → fits p.weekday value ≡ true → parts_kept (kept_of old) p ≡ old
    → parts_kept (kept_of old) (record p { weekday = Some value }) ≡ old
set-weekday old p value fit h =
    ap (λ part. record (parts_kept (kept_of old) p) { weekday = part })
    (stays-number old.weekday p.weekday value (ap (λ (q : Parts). q.weekday) h) fit)
    ∙ ap (λ (q : Parts). record q { weekday = old.weekday }) h

set-iso_week : (old p : Parts) (value : ℕ) → fits p.iso_week value ≡ true → parts_kept (kept_of old) p ≡ old
    → parts_kept (kept_of old) (record p { iso_week = Some value }) ≡ old
set-iso_week old p value fit h =
    ap (λ part. record (parts_kept (kept_of old) p) { iso_week = part })
    (stays-number old.iso_week p.iso_week value (ap (λ (q : Parts). q.iso_week) h) fit)
    ∙ ap (λ (q : Parts). record q { iso_week = old.iso_week }) h

set-sunday_week : (old p : Parts) (value : ℕ) → fits p.sunday_week value ≡ true → parts_kept (kept_of old) p ≡ old
    → parts_kept (kept_of old) (record p { sunday_week = Some value }) ≡ old
set-sunday_week old p value fit h =
    ap (λ part. record (parts_kept (kept_of old) p) { sunday_week = part })
    (stays-number old.sunday_week p.sunday_week value (ap (λ (q : Parts). q.sunday_week) h) fit)
    ∙ ap (λ (q : Parts). record q { sunday_week = old.sunday_week }) h

set-monday_week : (old p : Parts) (value : ℕ) → fits p.monday_week value ≡ true → parts_kept (kept_of old) p ≡ old
    → parts_kept (kept_of old) (record p { monday_week = Some value }) ≡ old
set-monday_week old p value fit h =
    ap (λ part. record (parts_kept (kept_of old) p) { monday_week = part })
    (stays-number old.monday_week p.monday_week value (ap (λ (q : Parts). q.monday_week) h) fit)
    ∙ ap (λ (q : Parts). record q { monday_week = old.monday_week }) h

set-hour : (old p : Parts) (value : ℕ) → fits p.hour value ≡ true → parts_kept (kept_of old) p ≡ old
    → parts_kept (kept_of old) (record p { hour = Some value }) ≡ old
set-hour old p value fit h =
    ap (λ part. record (parts_kept (kept_of old) p) { hour = part })
    (stays-number old.hour p.hour value (ap (λ (q : Parts). q.hour) h) fit)
    ∙ ap (λ (q : Parts). record q { hour = old.hour }) h

set-hour_12 : (old p : Parts) (value : ℕ) → fits p.hour_12 value ≡ true → parts_kept (kept_of old) p ≡ old
    → parts_kept (kept_of old) (record p { hour_12 = Some value }) ≡ old
set-hour_12 old p value fit h =
    ap (λ part. record (parts_kept (kept_of old) p) { hour_12 = part })
    (stays-number old.hour_12 p.hour_12 value (ap (λ (q : Parts). q.hour_12) h) fit)
    ∙ ap (λ (q : Parts). record q { hour_12 = old.hour_12 }) h

set-is_afternoon : (old p : Parts) (value : Bool) → fits_choice p.is_afternoon value ≡ true → parts_kept (kept_of old) p ≡ old
    → parts_kept (kept_of old) (record p { is_afternoon = Some value }) ≡ old
set-is_afternoon old p value fit h =
    ap (λ part. record (parts_kept (kept_of old) p) { is_afternoon = part })
    (stays-choice old.is_afternoon p.is_afternoon value (ap (λ (q : Parts). q.is_afternoon) h) fit)
    ∙ ap (λ (q : Parts). record q { is_afternoon = old.is_afternoon }) h

set-minute : (old p : Parts) (value : ℕ) → fits p.minute value ≡ true → parts_kept (kept_of old) p ≡ old
    → parts_kept (kept_of old) (record p { minute = Some value }) ≡ old
set-minute old p value fit h =
    ap (λ part. record (parts_kept (kept_of old) p) { minute = part })
    (stays-number old.minute p.minute value (ap (λ (q : Parts). q.minute) h) fit)
    ∙ ap (λ (q : Parts). record q { minute = old.minute }) h

set-second : (old p : Parts) (value : ℕ) → fits p.second value ≡ true → parts_kept (kept_of old) p ≡ old
    → parts_kept (kept_of old) (record p { second = Some value }) ≡ old
set-second old p value fit h =
    ap (λ part. record (parts_kept (kept_of old) p) { second = part })
    (stays-number old.second p.second value (ap (λ (q : Parts). q.second) h) fit)
    ∙ ap (λ (q : Parts). record q { second = old.second }) h

set-nanosecond : (old p : Parts) (value : ℕ) → fits p.nanosecond value ≡ true → parts_kept (kept_of old) p ≡ old
    → parts_kept (kept_of old) (record p { nanosecond = Some value }) ≡ old
set-nanosecond old p value fit h =
    ap (λ part. record (parts_kept (kept_of old) p) { nanosecond = part })
    (stays-number old.nanosecond p.nanosecond value (ap (λ (q : Parts). q.nanosecond) h) fit)
    ∙ ap (λ (q : Parts). record q { nanosecond = old.nanosecond }) h

set-is_west : (old p : Parts) (value : Bool) → fits_choice p.is_west value ≡ true → parts_kept (kept_of old) p ≡ old
    → parts_kept (kept_of old) (record p { is_west = Some value }) ≡ old
set-is_west old p value fit h =
    ap (λ part. record (parts_kept (kept_of old) p) { is_west = part })
    (stays-choice old.is_west p.is_west value (ap (λ (q : Parts). q.is_west) h) fit)
    ∙ ap (λ (q : Parts). record q { is_west = old.is_west }) h

set-offset_hour : (old p : Parts) (value : ℕ) → fits p.offset_hour value ≡ true → parts_kept (kept_of old) p ≡ old
    → parts_kept (kept_of old) (record p { offset_hour = Some value }) ≡ old
set-offset_hour old p value fit h =
    ap (λ part. record (parts_kept (kept_of old) p) { offset_hour = part })
    (stays-number old.offset_hour p.offset_hour value (ap (λ (q : Parts). q.offset_hour) h) fit)
    ∙ ap (λ (q : Parts). record q { offset_hour = old.offset_hour }) h

set-offset_minute : (old p : Parts) (value : ℕ) → fits p.offset_minute value ≡ true → parts_kept (kept_of old) p ≡ old
    → parts_kept (kept_of old) (record p { offset_minute = Some value }) ≡ old
set-offset_minute old p value fit h =
    ap (λ part. record (parts_kept (kept_of old) p) { offset_minute = part })
    (stays-number old.offset_minute p.offset_minute value (ap (λ (q : Parts). q.offset_minute) h) fit)
    ∙ ap (λ (q : Parts). record q { offset_minute = old.offset_minute }) h

set-offset_second : (old p : Parts) (value : ℕ) → fits p.offset_second value ≡ true → parts_kept (kept_of old) p ≡ old
    → parts_kept (kept_of old) (record p { offset_second = Some value }) ≡ old
set-offset_second old p value fit h =
    ap (λ part. record (parts_kept (kept_of old) p) { offset_second = part })
    (stays-number old.offset_second p.offset_second value (ap (λ (q : Parts). q.offset_second) h) fit)
    ∙ ap (λ (q : Parts). record q { offset_second = old.offset_second }) h

set-unix_second : (old p : Parts) (value : ℤ) → fits_signed p.unix_second value ≡ true → parts_kept (kept_of old) p ≡ old
    → parts_kept (kept_of old) (record p { unix_second = Some value }) ≡ old
set-unix_second old p value fit h =
    ap (λ part. record (parts_kept (kept_of old) p) { unix_second = part })
    (stays-signed old.unix_second p.unix_second value (ap (λ (q : Parts). q.unix_second) h) fit)
    ∙ ap (λ (q : Parts). record q { unix_second = old.unix_second }) h

set-unix_millisecond : (old p : Parts) (value : ℤ) → fits_signed p.unix_millisecond value ≡ true → parts_kept (kept_of old) p ≡ old
    → parts_kept (kept_of old) (record p { unix_millisecond = Some value }) ≡ old
set-unix_millisecond old p value fit h =
    ap (λ part. record (parts_kept (kept_of old) p) { unix_millisecond = part })
    (stays-signed old.unix_millisecond p.unix_millisecond value (ap (λ (q : Parts). q.unix_millisecond) h) fit)
    ∙ ap (λ (q : Parts). record q { unix_millisecond = old.unix_millisecond }) h

set-unix_microsecond : (old p : Parts) (value : ℤ) → fits_signed p.unix_microsecond value ≡ true → parts_kept (kept_of old) p ≡ old
    → parts_kept (kept_of old) (record p { unix_microsecond = Some value }) ≡ old
set-unix_microsecond old p value fit h =
    ap (λ part. record (parts_kept (kept_of old) p) { unix_microsecond = part })
    (stays-signed old.unix_microsecond p.unix_microsecond value (ap (λ (q : Parts). q.unix_microsecond) h) fit)
    ∙ ap (λ (q : Parts). record q { unix_microsecond = old.unix_microsecond }) h

set-unix_nanosecond : (old p : Parts) (value : ℤ) → fits_signed p.unix_nanosecond value ≡ true → parts_kept (kept_of old) p ≡ old
    → parts_kept (kept_of old) (record p { unix_nanosecond = Some value }) ≡ old
set-unix_nanosecond old p value fit h =
    ap (λ part. record (parts_kept (kept_of old) p) { unix_nanosecond = part })
    (stays-signed old.unix_nanosecond p.unix_nanosecond value (ap (λ (q : Parts). q.unix_nanosecond) h) fit)
    ∙ ap (λ (q : Parts). record q { unix_nanosecond = old.unix_nanosecond }) h

both : (s t : Bool) → (s && t) ≡ true → (s ≡ true) × (t ≡ true)
both true t h = (refl, h)
both false t h = absurd cc

-- the parts with the value of a component that contradicts none of them
part-kept : (c : Component) (n : Bool × ℕ) (old p : Parts) → agrees c n p ≡ true → parts_kept (kept_of old) p ≡ old
    → parts_kept (kept_of old) (with_part c n p) ≡ old
unfolding agrees with_part
part-kept (Year Calendar sign padding range) n old p fit h = set-year old p (signed n.0 n.1) fit h
part-kept (Year IsoWeek sign padding range) n old p fit h = set-iso_year old p (signed n.0 n.1) fit h
part-kept (YearLastTwo Calendar padding) n old p fit h = set-year_last_two old p n.1 fit h
part-kept (YearLastTwo IsoWeek padding) n old p fit h = set-iso_year_last_two old p n.1 fit h
part-kept (Month padding) n old p fit h = set-month old p n.1 fit h
part-kept (MonthName form case) n old p fit h = set-month old p n.1 fit h
part-kept (Day padding) n old p fit h = set-day old p n.1 fit h
part-kept (Ordinal padding) n old p fit h = set-ordinal old p n.1 fit h
part-kept (WeekdayName form case) n old p fit h = set-weekday old p n.1 fit h
part-kept (WeekdayNumber start count) n old p fit h = set-weekday old p n.1 fit h
part-kept (WeekNumber Iso padding) n old p fit h = set-iso_week old p n.1 fit h
part-kept (WeekNumber Sunday padding) n old p fit h = set-sunday_week old p n.1 fit h
part-kept (WeekNumber Monday padding) n old p fit h = set-monday_week old p n.1 fit h
part-kept (Hour padding) n old p fit h = set-hour old p n.1 fit h
part-kept (Hour12 padding) n old p fit h = set-hour_12 old p n.1 fit h
part-kept (Period case read) n old p fit h = set-is_afternoon old p n.0 fit h
part-kept (Minute padding) n old p fit h = set-minute old p n.1 fit h
part-kept (Second padding) n old p fit h = set-second old p n.1 fit h
part-kept (Subsecond digits) n old p fit h = set-nanosecond old p n.1 fit h
part-kept (OffsetMinute padding) n old p fit h = set-offset_minute old p n.1 fit h
part-kept (OffsetSecond padding) n old p fit h = set-offset_second old p n.1 fit h
part-kept (UnixTimestamp Seconds sign) n old p fit h = set-unix_second old p (signed n.0 n.1) fit h
part-kept (UnixTimestamp Milliseconds sign) n old p fit h = set-unix_millisecond old p (signed n.0 n.1) fit h
part-kept (UnixTimestamp Microseconds sign) n old p fit h = set-unix_microsecond old p (signed n.0 n.1) fit h
part-kept (UnixTimestamp Nanoseconds sign) n old p fit h = set-unix_nanosecond old p (signed n.0 n.1) fit h
part-kept (YearSince first) n old p fit h = set-year old p (signed n.0 n.1) fit h
part-kept (YearSix Calendar) n old p fit h = set-year old p (signed n.0 n.1) fit h
part-kept (YearSix IsoWeek) n old p fit h = set-iso_year old p (signed n.0 n.1) fit h
part-kept (YearCentury Calendar sign padding range) n old p fit h =
    let here = both _ _ fit in
    let first = set-is_before_zero old p n.0 here.0 h in
    set-year_century old (record p { is_before_zero = Some n.0 }) n.1 here.1 first
part-kept (YearCentury IsoWeek sign padding range) n old p fit h =
    let here = both _ _ fit in
    let first = set-is_iso_before_zero old p n.0 here.0 h in
    set-iso_year_century old (record p { is_iso_before_zero = Some n.0 }) n.1 here.1 first
part-kept (OffsetHour sign padding) n old p fit h =
    let here = both _ _ fit in
    let first = set-is_west old p n.0 here.0 h in
    set-offset_hour old (record p { is_west = Some n.0 }) n.1 here.1 first
part-kept (OffsetWord word case) n old p fit h =
    let here = both _ _ fit in
    let next = both _ _ here.1 in
    let third = both _ _ next.1 in
    let first = set-is_west old p n.0 here.0 h in
    let second = set-offset_hour old (record p { is_west = Some n.0 }) (n.1 / 3_600) next.0 first in
    let three = set-offset_minute old (record p { is_west = Some n.0; offset_hour = Some (n.1 / 3_600) }) (n.1 / 60 % 60) third.0 second in
    set-offset_second old (record p { is_west = Some n.0; offset_hour = Some (n.1 / 3_600); offset_minute = Some (n.1 / 60 % 60) }) (n.1 % 60) third.1 three
part-kept (HourFraction digits) n old p fit h =
    let here = both _ _ fit in
    let next = both _ _ here.1 in
    let first = set-minute old p (minute_of n.1) here.0 h in
    let second = set-second old (record p { minute = Some (minute_of n.1) }) (second_of n.1) next.0 first in
    set-nanosecond old (record p { minute = Some (minute_of n.1); second = Some (second_of n.1) }) (nanosecond_of n.1) next.1 second
part-kept (MinuteFraction digits) n old p fit h =
    let here = both _ _ fit in
    let first = set-second old p (second_of n.1) here.0 h in
    set-nanosecond old (record p { second = Some (second_of n.1) }) (nanosecond_of n.1) here.1 first
part-kept (Ignore count) n old p fit h = h
part-kept End n old p fit h = h
part-kept (IgnoreWeekday form case) n old p fit h = h
part-kept IgnoreDigits n old p fit h = h

-- an item that is read keeps the parts that are known
pub item-keeps : (item : Item) (text : List ℕ) (p : Parts) (read : Parts × List ℕ) → Some read ≡ item_at item text p → Keeps p read.0
unfolding item_at
item-keeps (Byte byte) text p read is old h =
    let after = bind_some (mark_at byte text) (λ (left : List ℕ). Some (p, left)) read (sym is) in
    let given = after.2 in
    let pair : (p, after.0) ≡ read = cc in
    rw (← ap (λ (r : Parts × List ℕ). r.0) pair) h
item-keeps (Part c) text p read is old h =
    let number = bind_some (component_at c text) (λ (number : (Bool × ℕ) × List ℕ). part_given c p number) read (sym is) in
    let given = given-takes c p number.0 read _ refl number.2 in
    rw (ap (λ (r : Parts × List ℕ). r.0) given.1) (part-kept c number.0.0 old p given.0 h)
item-keeps (Optional size) text p read is old h = let pair : (p, text) ≡ read = cc in rw (← ap (λ (r : Parts × List ℕ). r.0) pair) h
item-keeps (First size) text p read is old h = let pair : (p, text) ≡ read = cc in rw (← ap (λ (r : Parts × List ℕ). r.0) pair) h
item-keeps (Or size) text p read is old h = let pair : (p, text) ≡ read = cc in rw (← ap (λ (r : Parts × List ℕ). r.0) pair) h
