use Rattle.std.proofs.Common.{◌≡◌, ◌∙◌, rules, refl, w32, to_z, of_z}
use Rattle.muxandu_c.proofs.WeekDateLemmas.{day_from_week_date-of}
use Rattle.muxandu_c.proofs.days.day_from_week_date.Goals as goal

pub returns-in_ok-from_iso_week_date-in-Some : goal.returns-in_ok-from_iso_week_date-in-Some
returns-in_ok-from_iso_week_date-in-Some c =
    let day : to_z w32 (of_z w32 c.day_of.result) ≡ c.day_of.result = search rules in
    day_from_week_date-of c.args.date _ (to_z w32 (of_z w32 c.day_of.result)) _ _ (day ∙ c.day_of.ensures.value)
    c.in_ok-from_iso_week_date-in-Some.ensures.value.equation (search rules) c.in-Some.ensures.value (c.in-Some.ensures.accepted.0 refl)
