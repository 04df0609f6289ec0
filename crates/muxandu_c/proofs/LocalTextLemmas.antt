-- Texts without an offset, by their form.
use Rattle.std.proofs.Common.{◌≡◌, ◌⊎◌, inl, inr, ℕ, ℤ, Bool, true, false, nat_eq, cond, List, ◌++◌, Option, Some, None}
use Rattle.std.proofs.Common.{refl, ap, ◌∙◌, Result, Ok, Err}
use Rattle.std.specs.Prelude.{codes, pos, ◌||◌, nat_lt}
use Rattle.calendar_values.specs.Calendar.{is_leap_year, days_in_month}
use Rattle.calendar_values.specs.Offsets.{offset_of_seconds}
use Rattle.local_texts.specs.LocalForms.{date_time_in_utc, time_in_utc, IsLocalDateTime, IsLocalTime}
use Rattle.offset_times.specs.Local.{Local}
use Rattle.rfc3339.specs.declared.parts.Parts.{Parts}
use Rattle.rfc3339.specs.declared.refusal.Component.{Component}
use Rattle.rfc3339.specs.declared.refusal.Component.TheVariants as component
use Rattle.rfc3339.specs.declared.refusal.TextRefusal.{TextRefusal}
use Rattle.rfc3339.specs.declared.refusal.TextRefusal.TheVariants.{OutOfRange}
use Rattle.rfc3339.specs.Form.{IsDateTime}
use Rattle.rfc3339.specs.Meaning.{meaning, value_of}
use Rattle.rfc3339.specs.Reading.{parts_at}
use Rattle.rfc3339.specs.TextLemmas.{front_again, parts_takes, parts_again}
use Rattle.muxandu_c.specs.Answers.{and_then, as_refused, text_as_refused}
use Rattle.muxandu_c.specs.Exchange.{date_time_spelled}
use Rattle.muxandu_c.specs.LocalTexts.{time_read, time_spelled, time_of, at_offset, or_if_syntax, plain_at, local_read}
use Rattle.muxandu_c.specs.TextBatches.{date_time_if_any, date_time_read}
use Rattle.muxandu_c.specs.Values.{as_date_time}
use Rattle.muxandu_c.specs.declared.refused.Refused.{Refused}
use Rattle.muxandu_c.specs.declared.refused.Refused.TheVariants as refused
use Rattle.muxandu_c.specs.declared.values.MuxanduDateTime.{MuxanduDateTime}

-- the reading of a text that has the form, and of another
pub read-spelled : (t : List ℕ) (p : Parts) → IsDateTime t p → date_time_read t ≡ date_time_spelled p
read-spelled t p h = ap date_time_if_any (parts_again t p h)

syntax_of_parts : (t : List ℕ) (o : Option Parts) → parts_at t ≡ o → ((p : Parts) × IsDateTime t p) ⊎ (date_time_read t ≡ Err refused.Syntax)
syntax_of_parts t (Some p) e = inl (p, parts_takes t p e)
syntax_of_parts t None e = inr (ap date_time_if_any e)

pub read-syntax : (t : List ℕ) → ((p : Parts) × IsDateTime t p) ⊎ (date_time_read t ≡ Err refused.Syntax)
read-syntax t = syntax_of_parts t (parts_at t) refl

pub time-syntax : (t : List ℕ) → ((p : Parts) × IsLocalTime t p) ⊎ (time_read t ≡ Err refused.Syntax)
time-syntax t =
    elim (read-syntax (time_in_utc t)) [
      | inl some ↦ inl some
      | inr none ↦ inr (ap (λ (r : Result MuxanduDateTime Refused). and_then r (λ v. Ok (time_of v))) none)
    ]

pub time-spelled : (t : List ℕ) (p : Parts) → IsLocalTime t p → time_read t ≡ time_spelled p
time-spelled t p h = ap (λ (r : Result MuxanduDateTime Refused). and_then r (λ v. Ok (time_of v))) (read-spelled (time_in_utc t) p h)

-- ---- with an offset or without

-- the error of a part is not one of syntax
day_is_no_syntax : (b : Bool) (second : Result MuxanduDateTime Refused)
    → or_if_syntax (Err (cond b refused.Day refused.DayOfMonth)) second ≡ Err (cond b refused.Day refused.DayOfMonth)
day_is_no_syntax true second = refl
day_is_no_syntax false second = refl

part_is_no_syntax : (day : ℕ) (part : Component) (second : Result MuxanduDateTime Refused) →
    let r : Result Local TextRefusal = Err (OutOfRange part) in
    or_if_syntax (as_date_time (text_as_refused day r)) second ≡ as_date_time (text_as_refused day r)
part_is_no_syntax day component.Month second = refl
part_is_no_syntax day component.Day second = day_is_no_syntax (nat_eq day 0 || nat_lt 31 day) second
part_is_no_syntax day component.Hour second = refl
part_is_no_syntax day component.Minute second = refl
part_is_no_syntax day component.Second second = refl
part_is_no_syntax day component.OffsetHour second = refl
part_is_no_syntax day component.OffsetMinute second = refl

abbrev IsNoSyntax : ℕ → Result Local TextRefusal → Type 0
IsNoSyntax day r = (second : Result MuxanduDateTime Refused) → or_if_syntax (as_date_time (text_as_refused day r)) second ≡ as_date_time (text_as_refused day r)

guard : (day : ℕ) (b : Bool) (part : Component) (r : Result Local TextRefusal) → IsNoSyntax day r → IsNoSyntax day (cond b (Err (OutOfRange part)) r)
guard day true part r h second = part_is_no_syntax day part second
guard day false part r h second = h second

spelled_is_no_syntax : (p : Parts) (second : Result MuxanduDateTime Refused) → or_if_syntax (date_time_spelled p) second ≡ date_time_spelled p
unfolding meaning
spelled_is_no_syntax p second =
    let value : Result Local TextRefusal = Ok (value_of p) in
    let offset_minute : Result Local TextRefusal = cond (nat_lt 59 p.offset_minute) (Err (OutOfRange component.OffsetMinute)) value in
    let offset_hour : Result Local TextRefusal = cond (nat_lt 23 p.offset_hour) (Err (OutOfRange component.OffsetHour)) offset_minute in
    let at_second : Result Local TextRefusal = cond (nat_lt 59 p.second) (Err (OutOfRange component.Second)) offset_hour in
    let minute : Result Local TextRefusal = cond (nat_lt 59 p.minute) (Err (OutOfRange component.Minute)) at_second in
    let hour : Result Local TextRefusal = cond (nat_lt 23 p.hour) (Err (OutOfRange component.Hour)) minute in
    let no_day : Bool = nat_eq p.day 0 || nat_lt (days_in_month (is_leap_year (pos p.year)) p.month) p.day in
    let day : Result Local TextRefusal = cond no_day (Err (OutOfRange component.Day)) hour in
    guard p.day (nat_eq p.month 0 || nat_lt 12 p.month) component.Month day
    (guard p.day no_day component.Day hour
    (guard p.day (nat_lt 23 p.hour) component.Hour minute
    (guard p.day (nat_lt 59 p.minute) component.Minute at_second
    (guard p.day (nat_lt 59 p.second) component.Second offset_hour
    (guard p.day (nat_lt 23 p.offset_hour) component.OffsetHour offset_minute
    (guard p.day (nat_lt 59 p.offset_minute) component.OffsetMinute value (λ other. refl))))))) second

-- the same after the test of an offset
after_offset : (r : Result ℤ Refused) (f g : ℤ → Result MuxanduDateTime Refused) → ((o : ℤ) → f o ≡ g o) → and_then r f ≡ and_then r g
after_offset (Ok o) f g h = h o
after_offset (Err refusal) f g h = refl

pub local-own : (offset_seconds : ℤ) (t : List ℕ) (p : Parts) → IsDateTime t p
    → local_read offset_seconds t ≡ and_then (as_refused (offset_of_seconds offset_seconds)) (λ o. date_time_spelled p)
local-own offset_seconds t p h =
    after_offset (as_refused (offset_of_seconds offset_seconds)) (λ o. or_if_syntax (date_time_read t) (plain_at o t)) (λ o. date_time_spelled p)
    (λ o. ap (λ (r : Result MuxanduDateTime Refused). or_if_syntax r (plain_at o t)) (read-spelled t p h) ∙ spelled_is_no_syntax p (plain_at o t))

-- no text has the form both with an offset and without
not_both : (t : List ℕ) (p q : Parts) → IsDateTime (t ++ codes "Z") p → IsDateTime t q → ⊥
unfolding parts_at
not_both t p q h k =
    let whole = rw (front_again t q (codes "Z") k) at (parts_again (t ++ codes "Z") p h) in absurd cc

pub local-plain : (offset_seconds : ℤ) (t : List ℕ) (p : Parts) → IsLocalDateTime t p
    → local_read offset_seconds t
    ≡ and_then (as_refused (offset_of_seconds offset_seconds)) (λ o. and_then (date_time_spelled p) (λ v. Ok (at_offset o v)))
local-plain offset_seconds t p h =
    let none : date_time_read t ≡ Err refused.Syntax = elim (read-syntax t) [
      | inl some ↦ absurd (not_both t p some.0 h some.1)
      | inr syntax ↦ syntax
    ] in
    after_offset (as_refused (offset_of_seconds offset_seconds)) (λ o. or_if_syntax (date_time_read t) (plain_at o t))
    (λ o. and_then (date_time_spelled p) (λ v. Ok (at_offset o v)))
    (λ o. ap (λ (r : Result MuxanduDateTime Refused). or_if_syntax r (plain_at o t)) none
    ∙ ap (λ (r : Result MuxanduDateTime Refused). and_then r (λ v. Ok (at_offset o v))) (read-spelled (date_time_in_utc t) p h))
