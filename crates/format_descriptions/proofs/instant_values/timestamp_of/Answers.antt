use Rattle.std.proofs.Common.{rules, ◌≡◌}
use Rattle.calendar_values.specs.WallClock.{IsInstant, unix_seconds_of}
use Rattle.stamp_times.specs.Instants.{instant_of_parts, unix_nanosecond_of}
use Rattle.format_descriptions.proofs.SplitLemmas.{Gives-instant, instant_again}
use Rattle.format_descriptions.proofs.instant_values.timestamp_of.Goals as goal

pub returns-in-Ok : goal.returns-in-Ok
returns-in-Ok c =
    let i = c.args.nanoseconds in
    let s = c.split_seconds-second.result.0 in
    let n = c.split_seconds-second.result.1 in
    let second : s ≡ unix_seconds_of i = search rules in
    let nanosecond : n ≡ unix_nanosecond_of i = search rules in
    let at : c.in-Ok.at ≡ instant_of_parts s n = search rules in
    let here : IsInstant i = search rules in Gives-instant c.in-Ok.at i here (instant_again c.in-Ok.at i s n second nanosecond at)
