use Rattle.std.proofs.Common.{refl, length, arith, sym, ap, ◌∙◌, ℕ, unsigned_abs}
use Rattle.calendar_values.specs.Calendar.{year_of}
use Rattle.calendar_values.specs.SignedArith.{signed_casts}
use Rattle.rfc3339.proofs.WriteLemmas.{back_part, no_part, some_size, size_of_parts, whole_minutes_of}
use Rattle.rfc3339.proofs.WriteLemmas.{back_year_of_range, four_digits, below_four_digits, above_four_digits}
use Rattle.rfc3339.specs.Texts.{text_with}
use Rattle.rfc3339.proofs.write.text_with.Goals as goal
use Rattle.rfc3339.proofs.write.text_with.Goals.{then-year-lt0-via-then-year-lt0, then-year-lt0-via-else-year-lt0+then-year-gt9999}
use Rattle.rfc3339.proofs.write.text_with.Goals.{then-year-lt0-via-else-year-lt0+else-year-gt9999+then-seconds-ne0}
use Rattle.rfc3339.proofs.write.text_with.Goals.{then-year-lt0-via-else-year-lt0+else-year-gt9999+else-seconds-ne0+then-unsigned_abs-gt23}

pub returns-then-year-lt0-clause-text : goal.returns-then-year-lt0-clause-text
returns-then-year-lt0-clause-text c h =
    let shown = c.to_calendar_date-year.ensures in
    let year = shown.year ∙ ap year_of c.parts-date.ensures.date in
    let p = c.as_hms-hours.ensures.in_range in
    let offset = c.as_hms-hours.ensures.parts ∙ c.parts-date.ensures.offset in
    let size = ap unsigned_abs (sym offset) ∙ size_of_parts c.as_hms-hours.result.0 c.as_hms-hours.result.1 c.as_hms-hours.result.2 p in
    elim c.then-year-lt0.branch [
      | then-year-lt0-via-then-year-lt0 w ↦ below_four_digits _ shown.year_in_range w.if-year-lt0.true (rw year h.year_first)
      | then-year-lt0-via-else-year-lt0+then-year-gt9999 w ↦ above_four_digits _ shown.year_in_range w.if-year-gt9999.true (rw year h.year_last)
      | then-year-lt0-via-else-year-lt0+else-year-gt9999+then-seconds-ne0 w ↦ omega (arith, some_size c.as_hms-hours.result.2 w.if-seconds-ne0.true)
      | then-year-lt0-via-else-year-lt0+else-year-gt9999+else-seconds-ne0+then-unsigned_abs-gt23 w ↦
          omega (arith, w.unsigned_abs.ensures.value ∙ ap unsigned_abs (back_part c.as_hms-hours.result.0 (omega (arith, p.hours_in_range))))
    ]

pub push_offset-requires-clause-parts : goal.push_offset-requires-clause-parts
push_offset-requires-clause-parts c =
    let p = c.as_hms-hours.ensures.in_range in
    let back_hours = back_part c.as_hms-hours.result.0 (omega (arith, p.hours_in_range)) in
    let back_minutes = back_part c.as_hms-hours.result.1 p.minutes_in_range in
    let none = no_part c.as_hms-hours.result.2 p.seconds_in_range c.if-seconds-ne0.false in
    rw (back_hours, back_minutes) (rw none at p)

pub returns-clause-text : goal.returns-clause-text
unfolding text_with
returns-clause-text c =
    let shown = c.to_calendar_date-year.ensures in
    let date = c.parts-date.ensures in
    let year = shown.year ∙ ap year_of date.date in
    let same = back_year_of_range _ shown.year_in_range in
    let digits = four_digits _ shown.year_in_range c.if-year-lt0.false c.if-year-gt9999.false in
    let p = c.as_hms-hours.ensures.in_range in
    let offset = c.as_hms-hours.ensures.parts ∙ date.offset in
    let back_hours = back_part c.as_hms-hours.result.0 (omega (arith, p.hours_in_range)) in
    let back_minutes = back_part c.as_hms-hours.result.1 p.minutes_in_range in
    let none = no_part c.as_hms-hours.result.2 p.seconds_in_range c.if-seconds-ne0.false in
    let hours = rw (c.unsigned_abs.ensures.value, back_hours) at c.if-unsigned_abs-gt23.false in
    let minutes = rw offset at (whole_minutes_of _ _ _ p none hours) in
    let signed = rw none at offset in (
      record {
        year_first = rw (← year) digits.0;
        year_last = rw (← year) digits.1;
        whole_minutes = minutes.0;
        below_a_day = minutes.1;
      },
      rw (c.push_offset.ensures.value, c.push_digits.ensures.value, c.push_wall.ensures.value)
          (rw (c.new-text.ensures, back_hours, back_minutes, signed, same, c.from.ensures, shown.year, shown.month, shown.day, date.date)
          (rw (c.as_hms_nano-hour.ensures.value, date.time) refl)),
    )

pub returns-clause-length : goal.returns-clause-length
returns-clause-length c = omega (arith, ap (length {A = ℕ}) c.new-text.ensures)

pub push_wall-requires : goal.push_wall-requires
push_wall-requires c = omega (arith, ap (length {A = ℕ}) c.new-text.ensures)

pub push_digits-requires : goal.push_digits-requires
push_digits-requires c = omega (arith, ap (length {A = ℕ}) c.new-text.ensures)

pub push_offset-requires-clause-room : goal.push_offset-requires-clause-room
push_offset-requires-clause-room c = omega (arith, ap (length {A = ℕ}) c.new-text.ensures)

pub overflow_cast-year : goal.overflow_cast-year
overflow_cast-year c = omega (arith, signed_casts)
