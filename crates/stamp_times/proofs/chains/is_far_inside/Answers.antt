use Rattle.std.proofs.Common.{rules, ◌≡◌, ◌<◌, ◌∙◌, ap, true, nat_lt, arith, unsigned_abs, to_z, of_z, w32}
use Rattle.std.proofs.lemmas.Bool.Decides.{nat_tests}
use Rattle.calendar_values.specs.Calendar.{year_of}
use Rattle.calendar_values.specs.WallClock.{wall_day}
use Rattle.stamp_times.proofs.FarInsideLemmas.{IsFarInside-year, IsFarInside-utc_year}
use Rattle.stamp_times.proofs.chains.is_far_inside.Goals as goal

pub returns-in-Utc : goal.returns-in-Utc
returns-in-Utc c =
    let back : to_z w32 (of_z w32 c.year.result) ≡ c.year.result = search rules in
    let size : c.unsigned_abs-in-Utc.result ≡ unsigned_abs (year_of (wall_day c.in-Utc.at)) =
    c.unsigned_abs-in-Utc.ensures.value ∙ ap unsigned_abs (back ∙ c.year.ensures.value) in
    rw c.in-Utc.is (λ low.
    let test : nat_lt c.unsigned_abs-in-Utc.result 999_999 ≡ true = low in
    let below : c.unsigned_abs-in-Utc.result < 999_999 = grind (arith, nat_tests) in
    IsFarInside-utc_year c.in-Utc.at (omega (arith, size, below)))

pub returns-in-Offset : goal.returns-in-Offset
returns-in-Offset c =
    let back : to_z w32 (of_z w32 c.year-in-Offset.result) ≡ c.year-in-Offset.result = search rules in
    let year = c.year-in-Offset.ensures.value ∙ ap year_of c.date.ensures.value in
    let size : c.unsigned_abs-in-Offset.result ≡ unsigned_abs (year_of (wall_day c.in-Offset.at.wall)) =
    c.unsigned_abs-in-Offset.ensures.value ∙ ap unsigned_abs (back ∙ year) in
    rw c.in-Offset.is (λ low.
    let test : nat_lt c.unsigned_abs-in-Offset.result 999_999 ≡ true = low in
    let below : c.unsigned_abs-in-Offset.result < 999_999 = grind (arith, nat_tests) in
    IsFarInside-year c.in-Offset.at c.date.ensures.self_in_range (omega (arith, size, below)))
