use Rattle.std.proofs.Common.{refl, append_assoc}
use Rattle.calendar_values.specs.Digits.{last_digits}
use Rattle.stamp_times.specs.Texts.{fraction_text}
use Rattle.iso_texts.specs.IsoTexts.{iso_text}
use Rattle.iso_texts.proofs.IsoRangeLemmas.{back_year, back_offset}
use Rattle.iso_texts.proofs.write.date_time_to_iso.Goals as goal

pub returns-clause-text : goal.returns-clause-text
unfolding iso_text last_digits fraction_text
returns-clause-text c =
    let shown = c.to_calendar_date-year.ensures in
    let date = c.parts-date.ensures in
    let year = back_year _ shown.year_in_range in
    let offset = back_offset _ c.whole_seconds.ensures.in_range in
    rw (c.push_offset.ensures.value, c.push_fraction.ensures.value, c.push_clock.ensures.value, c.push_month_and_day.ensures.value, c.push_year.ensures.value)
    (rw (c.new-text.ensures, year, offset, c.from.ensures, shown.year, shown.month, shown.day, date.date)
    (rw (c.as_hms_nano-hour.ensures.value, date.time, c.whole_seconds.ensures.value, date.offset) (simp append_assoc refl)))
