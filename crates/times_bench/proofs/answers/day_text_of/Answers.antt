use Rattle.std.specs.Prelude.{decimal}
use Rattle.std.proofs.Common.{rules, refl, append_assoc, ◌≡◌, w32}
use Rattle.std.proofs.lemmas.Int.{to_z-of_z}
use Rattle.calendar_values.specs.Calendar.{ordinal_of}
use Rattle.calendar_values.specs.WallClock.{wall_day}
use Rattle.stamp_times.specs.NumberedLemmas.{weekday_numbered-number}
use Rattle.times_bench.specs.Answers.{day_text}
use Rattle.times_bench.proofs.answers.day_text_of.Goals as goal

pub returns : goal.returns
unfolding day_text
returns c =
    let julian = to_z-of_z w32 c.to_julian_day.result (search rules) in
    let ordinal : c.push_decimal.new.self ≡ decimal (ordinal_of (wall_day c.args.at)) = search rules in
    rw (c.push_signed.ensures.value, c.push-2.ensures.value, c.push_bytes.ensures.value, c.push.ensures.value, ordinal, c.as_bytes.ensures.value)
    (rw (c.text.ensures.text, julian, c.to_julian_day.ensures.value, ← c.weekday.ensures, weekday_numbered-number c.weekday.result) (simp append_assoc refl))
