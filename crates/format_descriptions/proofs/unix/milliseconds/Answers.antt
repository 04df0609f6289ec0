use Rattle.std.proofs.Common.{rules, ◌≡◌, ◌∙◌, ◌/◌, pos, ◌+ℤ◌, ◌*ℤ◌, to_z, of_z}
use Rattle.std.specs.Int.{w128}
use Rattle.calendar_values.specs.WallClock.{unix_seconds_of}
use Rattle.stamp_times.specs.Instants.{unix_nanosecond_of}
use Rattle.format_descriptions.proofs.SplitLemmas.{whole_milliseconds}
use Rattle.format_descriptions.proofs.unix.milliseconds.Goals as goal

pub returns-clause-value : goal.returns-clause-value
returns-clause-value c =
    let s = c.split_seconds-second.result.0 in
    let n = c.split_seconds-second.result.1 in
    let second : s ≡ unix_seconds_of c.args.nanoseconds = search rules in
    let nanosecond : n ≡ unix_nanosecond_of c.args.nanoseconds = search rules in
    let made : to_z w128 (of_z w128 (to_z w128 (of_z w128 (to_z w128 (of_z w128 s) *ℤ pos 1_000)) +ℤ to_z w128 (n / 1_000_000)))
    ≡ s *ℤ pos 1_000 +ℤ pos (n / 1_000_000) = search rules in made ∙ whole_milliseconds c.args.nanoseconds s n second nanosecond
