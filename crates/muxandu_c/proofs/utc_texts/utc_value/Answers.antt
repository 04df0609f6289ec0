use Rattle.std.proofs.Common.{arith, refl, sym, ap, ◌∙◌, ◌≡◌, pos, Ok, to_z, w32}
use Rattle.calendar_values.specs.Month.{month_number}
use Rattle.calendar_values.specs.SignedArith.{signed_casts}
use Rattle.rfc3339.specs.Meaning.{AreInRange, value_of}
use Rattle.rfc3339.specs.MeaningLemmas.{meaning-in_range}
use Rattle.muxandu_c.proofs.utc_texts.utc_value.Goals as goal

pub returns : goal.returns
returns c =
    let p = c.args.parts in
    let month : month_number c.in-Ok.month ≡ p.month = c.in-Ok.ensures.value in
    let accepted = c.in-Ok.ensures.accepted.0 refl in
    let most = c.requires.year in
    let year : to_z w32 p.year ≡ pos p.year = omega (arith, signed_casts) in
    let date = c.in-Ok-from_calendar_date.ensures.value.value in
    let time = c.in-Ok-from_hms_nano.ensures.value in
    let day = rw (year, month) at date.0.1 in
    let hour = c.requires.offset_hour in
    let minute = c.requires.offset_minute in
    let ranges : AreInRange p = omega arith in
    let value : c.new_utc.result ≡ value_of p = c.new_utc.ensures.value ∙
    rw (date.1, time.1, year, month, c.requires.nanosecond, c.requires.east, hour, minute) refl in
    meaning-in_range p ranges ∙ ap Ok (sym value)
