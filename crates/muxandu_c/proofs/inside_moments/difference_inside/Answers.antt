use Rattle.std.proofs.Common.{pos, ◌+ℤ◌, ◌-ℤ◌, ◌*ℤ◌}
use Rattle.calendar_values.specs.Durations.{IsDurationParts}
use Rattle.muxandu_c.specs.InsideMoments.{instant_of_moment}
use Rattle.muxandu_c.proofs.InsideMomentLemmas.{difference-fits, difference-seconds, difference-part, difference-parts, difference-whole}
use Rattle.muxandu_c.proofs.InsideMomentLemmas.{seconds-apart, parts-apart, in-range}
use Rattle.muxandu_c.proofs.inside_moments.difference_inside.Goals as goal

pub overflow_sub-result : goal.overflow_sub-result
overflow_sub-result c =
    let h = c.requires.later in
    let k = c.requires.earlier in
    difference-fits c.args.later.seconds c.args.earlier.seconds c.borrowed_seconds-borrowed.result h.first h.last k.first k.last
    c.borrowed_seconds-borrowed.ensures.at_least c.borrowed_seconds-borrowed.ensures.at_most

pub returns : goal.returns
returns c =
    let h = c.requires.later in
    let k = c.requires.earlier in
    let s = c.args.later.seconds in
    let t = c.args.earlier.seconds in
    let n = c.args.later.nanoseconds in
    let m = c.args.earlier.nanoseconds in
    let b = c.borrowed_seconds-borrowed.result in
    let least = c.borrowed_seconds-borrowed.ensures.at_least in
    let most = c.borrowed_seconds-borrowed.ensures.at_most in
    let one : IsDurationParts ((s -ℤ t) -ℤ b) ((pos n -ℤ pos m) +ℤ (b *ℤ pos 1_000_000_000)) =
    rw (seconds-apart s t h.first h.last k.first k.last, parts-apart n m h.nanoseconds k.nanoseconds)
    at c.borrowed_seconds-borrowed.ensures.one_sign in
    let range = in-range ((pos n -ℤ pos m) +ℤ (b *ℤ pos 1_000_000_000)) one.in_range in
    rw (
      difference-seconds s t b h.first h.last k.first k.last least most,
      difference-part n m b h.nanoseconds k.nanoseconds least most range.0 range.1,
    )
    (difference-parts ((s -ℤ t) -ℤ b) ((pos n -ℤ pos m) +ℤ (b *ℤ pos 1_000_000_000))
    (instant_of_moment c.args.later -ℤ instant_of_moment c.args.earlier) one (difference-whole s t b n m))
