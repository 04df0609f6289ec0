use Rattle.std.proofs.Common.{◌≡◌, ◌∙◌, ap, rules, ℤ, pos, ◌-ℤ◌, w64, to_z, of_z}
use Rattle.std.specs.Int.{int_rem_euclid}
use Rattle.calendar_values.specs.WallClock.{unix_seconds_of}
use Rattle.muxandu_c.proofs.UnitLemmas.{parts_below-day, parts_below-hour, parts_below-minute, parts_below-second, parts_below-millisecond}
use Rattle.muxandu_c.proofs.UnitLemmas.{parts_below-microsecond, parts_below-nanosecond}
use Rattle.muxandu_c.proofs.rounded_instants.parts_in_unit.Goals as goal

pub returns-in-Day : goal.returns-in-Day
returns-in-Day c =
    let second : to_z w64 (of_z w64 c.as_seconds-second.result) ≡ unix_seconds_of c.args.at = search rules in
    let below : to_z w64 (of_z w64 c.second_below.result) ≡ c.second_below.result = search rules in
    rw (c.in-Day.is, c.parts.ensures)
    (parts_below-day c.args.at _ (below ∙ c.second_below.ensures ∙ ap (λ (s : ℤ). s -ℤ int_rem_euclid s (pos 86_400)) second))

pub returns-in-Hour : goal.returns-in-Hour
returns-in-Hour c =
    let second : to_z w64 (of_z w64 c.as_seconds-second.result) ≡ unix_seconds_of c.args.at = search rules in
    let below : to_z w64 (of_z w64 c.second_below-in-Hour.result) ≡ c.second_below-in-Hour.result = search rules in
    rw (c.in-Hour.is, c.parts-in-Hour.ensures)
    (parts_below-hour c.args.at _ (below ∙ c.second_below-in-Hour.ensures ∙ ap (λ (s : ℤ). s -ℤ int_rem_euclid s (pos 3_600)) second))

pub returns-in-Minute : goal.returns-in-Minute
returns-in-Minute c =
    let second : to_z w64 (of_z w64 c.as_seconds-second.result) ≡ unix_seconds_of c.args.at = search rules in
    let below : to_z w64 (of_z w64 c.second_below-in-Minute.result) ≡ c.second_below-in-Minute.result = search rules in
    rw (c.in-Minute.is, c.parts-in-Minute.ensures)
    (parts_below-minute c.args.at _ (below ∙ c.second_below-in-Minute.ensures ∙ ap (λ (s : ℤ). s -ℤ int_rem_euclid s (pos 60)) second))

pub returns-in-Second : goal.returns-in-Second
returns-in-Second c =
    let second : to_z w64 (of_z w64 c.as_seconds-second.result) ≡ unix_seconds_of c.args.at = search rules in
    rw (c.in-Second.is, c.parts-in-Second.ensures, second) (parts_below-second c.args.at)

pub returns-in-Millisecond : goal.returns-in-Millisecond
returns-in-Millisecond c =
    let second : to_z w64 (of_z w64 c.as_seconds-second.result) ≡ unix_seconds_of c.args.at = search rules in
    rw (c.in-Millisecond.is, c.parts-in-Millisecond.ensures, second, c.nanosecond-nanosecond.ensures.value)
    (parts_below-millisecond c.args.at)

pub returns-in-Microsecond : goal.returns-in-Microsecond
returns-in-Microsecond c =
    let second : to_z w64 (of_z w64 c.as_seconds-second.result) ≡ unix_seconds_of c.args.at = search rules in
    rw (c.in-Microsecond.is, c.parts-in-Microsecond.ensures, second, c.nanosecond-nanosecond.ensures.value)
    (parts_below-microsecond c.args.at)

pub returns-in-Nanosecond : goal.returns-in-Nanosecond
returns-in-Nanosecond c =
    let second : to_z w64 (of_z w64 c.as_seconds-second.result) ≡ unix_seconds_of c.args.at = search rules in
    rw (c.in-Nanosecond.is, c.parts-in-Nanosecond.ensures, second, c.nanosecond-nanosecond.ensures.value)
    (parts_below-nanosecond c.args.at)
