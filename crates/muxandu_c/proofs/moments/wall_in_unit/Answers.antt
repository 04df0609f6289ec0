use Rattle.std.proofs.Common.{rules, ap, ◌≡◌, ◌∙◌, ℤ, pos, ◌*ℤ◌, w64, to_z, of_z}
use Rattle.std.specs.Int.{int_div_euclid}
use Rattle.calendar_values.specs.WallClock.{unix_seconds_of}
use Rattle.utc_times.specs.UnixTime.{instant_of_second}
use Rattle.muxandu_c.proofs.UnitLemmas.{seconds_below-day, seconds_below-hour, seconds_below-minute}
use Rattle.muxandu_c.proofs.moments.wall_in_unit.Goals as goal

pub returns-in-Day : goal.returns-in-Day
returns-in-Day c =
    let second : to_z w64 (of_z w64 c.as_seconds-second.result) ≡ unix_seconds_of c.args.wall = search rules in
    let count : to_z w64 (of_z w64 (to_z w64 (of_z w64 c.div_euclid.result) *ℤ pos 86_400)) ≡ c.div_euclid.result *ℤ pos 86_400 = search rules in
    rw c.in-Day.is
    (c.at_second.ensures ∙ ap instant_of_second count
    ∙ ap (λ (d : ℤ). instant_of_second (d *ℤ pos 86_400)) (c.div_euclid.ensures ∙ ap (λ (s : ℤ). int_div_euclid s (pos 86_400)) second)
    ∙ seconds_below-day c.args.wall)

pub returns-in-Hour : goal.returns-in-Hour
returns-in-Hour c =
    let second : to_z w64 (of_z w64 c.as_seconds-second.result) ≡ unix_seconds_of c.args.wall = search rules in
    let count : to_z w64 (of_z w64 (to_z w64 (of_z w64 c.div_euclid-in-Hour.result) *ℤ pos 3_600)) ≡ c.div_euclid-in-Hour.result *ℤ pos 3_600 =
    search rules in
    rw c.in-Hour.is
    (c.at_second-in-Hour.ensures ∙ ap instant_of_second count
    ∙ ap (λ (d : ℤ). instant_of_second (d *ℤ pos 3_600)) (c.div_euclid-in-Hour.ensures ∙ ap (λ (s : ℤ). int_div_euclid s (pos 3_600)) second)
    ∙ seconds_below-hour c.args.wall)

pub returns-in-Minute : goal.returns-in-Minute
returns-in-Minute c =
    let second : to_z w64 (of_z w64 c.as_seconds-second.result) ≡ unix_seconds_of c.args.wall = search rules in
    let count : to_z w64 (of_z w64 (to_z w64 (of_z w64 c.div_euclid-in-Minute.result) *ℤ pos 60)) ≡ c.div_euclid-in-Minute.result *ℤ pos 60 =
    search rules in
    rw c.in-Minute.is
    (c.at_second-in-Minute.ensures ∙ ap instant_of_second count
    ∙ ap (λ (d : ℤ). instant_of_second (d *ℤ pos 60)) (c.div_euclid-in-Minute.ensures ∙ ap (λ (s : ℤ). int_div_euclid s (pos 60)) second)
    ∙ seconds_below-minute c.args.wall)
