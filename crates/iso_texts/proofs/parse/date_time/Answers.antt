use Rattle.std.proofs.Common.{arith, refl, sym, ap, ◌∙◌, ◌≡◌, Ok}
use Rattle.calendar_values.specs.Month.{month_number}
use Rattle.iso_texts.specs.IsoMeaning.{AreInIsoRange, iso_value_of}
use Rattle.iso_texts.proofs.IsoRangeLemmas.{back_signed, IsDated-of, IsTimed-of, second-over, meaning-month, meaning-day, meaning-hour}
use Rattle.iso_texts.proofs.IsoRangeLemmas.{meaning-minute, meaning-second}
use Rattle.iso_texts.proofs.IsoRangeLemmas.{meaning-offset_hour, meaning-offset_minute, meaning-in_range}
use Rattle.iso_texts.proofs.parse.date_time.Goals as goal

pub returns : goal.returns
returns c =
    let p = c.args.parts in
    let month : month_number c.in-Ok.month ≡ p.month = c.in-Ok.ensures.value in
    let accepted = c.in-Ok.ensures.accepted.0 refl in
    let year = back_signed _ p.is_before p.year c.with_sign-year.ensures c.requires.year in
    let date = c.in-Ok-from_calendar_date.ensures.value.value in
    let time = c.in-Ok-from_hms_nano.ensures.value in
    let day = rw (year, month) at date.0.1 in
    let ranges : AreInIsoRange p = omega arith in
    let value : c.new_in_offset.result ≡ iso_value_of p =
    c.new_in_offset.ensures.value ∙ rw (date.1, time.1, c.offset-offset.ensures, year, month) refl in
    record { value = ap Ok value ∙ sym (meaning-in_range p ranges) }

pub returns-in_default : goal.returns-in_default
returns-in_default c =
    record { value = meaning-month c.args.parts (λ month. let never = c.in_default.ensures.accepted.1 month in absurd cc) }

pub returns-in_default-from_calendar_date : goal.returns-in_default-from_calendar_date
returns-in_default-from_calendar_date c =
    let p = c.args.parts in
    let refused = c.in_default-from_calendar_date.ensures.value.value in
    let year = back_signed _ p.is_before p.year c.with_sign-year.ensures c.requires.year in
    record { value = meaning-day p _ _ year c.in-Ok.ensures.value c.requires.year (c.in-Ok.ensures.accepted.0 refl) refused }

pub returns-then-parts-gt23 : goal.returns-then-parts-gt23
returns-then-parts-gt23 c =
    let p = c.args.parts in
    let date = c.in-Ok-from_calendar_date.ensures.value.value.0 in
    let year = back_signed _ p.is_before p.year c.with_sign-year.ensures c.requires.year in
    let dated = IsDated-of p _ _ year c.in-Ok.ensures.value (c.in-Ok.ensures.accepted.0 refl) date in
    record { value = meaning-hour p dated c.if-parts-gt23.true }

pub returns-then-parts-gt59 : goal.returns-then-parts-gt59
returns-then-parts-gt59 c =
    let p = c.args.parts in
    let date = c.in-Ok-from_calendar_date.ensures.value.value.0 in
    let year = back_signed _ p.is_before p.year c.with_sign-year.ensures c.requires.year in
    let dated = IsDated-of p _ _ year c.in-Ok.ensures.value (c.in-Ok.ensures.accepted.0 refl) date in
    record { value = meaning-minute p dated c.if-parts-gt23.false c.if-parts-gt59.true }

pub returns-in_default-from_hms_nano : goal.returns-in_default-from_hms_nano
returns-in_default-from_hms_nano c =
    let p = c.args.parts in
    let date = c.in-Ok-from_calendar_date.ensures.value.value.0 in
    let year = back_signed _ p.is_before p.year c.with_sign-year.ensures c.requires.year in
    let dated = IsDated-of p _ _ year c.in-Ok.ensures.value (c.in-Ok.ensures.accepted.0 refl) date in
    let over = second-over p.hour p.minute p.second p.nanosecond c.in_default-from_hms_nano.ensures.value c.if-parts-gt23.false c.if-parts-gt59.false
    c.requires.nanosecond in
    record { value = meaning-second p dated c.if-parts-gt23.false c.if-parts-gt59.false over }

pub returns-then-parts-gt25 : goal.returns-then-parts-gt25
returns-then-parts-gt25 c =
    let p = c.args.parts in
    let date = c.in-Ok-from_calendar_date.ensures.value.value.0 in
    let year = back_signed _ p.is_before p.year c.with_sign-year.ensures c.requires.year in
    let dated = IsDated-of p _ _ year c.in-Ok.ensures.value (c.in-Ok.ensures.accepted.0 refl) date in
    let time = IsTimed-of p c.in-Ok-from_hms_nano.ensures.value.0 in
    record { value = meaning-offset_hour p dated time c.if-parts-gt25.true }

pub returns-then-parts-gt59-2 : goal.returns-then-parts-gt59-2
returns-then-parts-gt59-2 c =
    let p = c.args.parts in
    let date = c.in-Ok-from_calendar_date.ensures.value.value.0 in
    let year = back_signed _ p.is_before p.year c.with_sign-year.ensures c.requires.year in
    let dated = IsDated-of p _ _ year c.in-Ok.ensures.value (c.in-Ok.ensures.accepted.0 refl) date in
    let time = IsTimed-of p c.in-Ok-from_hms_nano.ensures.value.0 in
    record { value = meaning-offset_minute p dated time c.if-parts-gt25.false c.if-parts-gt59-2.true }
