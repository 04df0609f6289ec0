use Rattle.std.proofs.Common.{◌≡◌, rules, to_z, of_z, w32}
use Rattle.stamp_times.proofs.timestamp.Timestamp.date.Goals as goal

pub at_ordinal_date-requires-clause-year : goal.at_ordinal_date-requires-clause-year
at_ordinal_date-requires-clause-year c =
    let year : to_z w32 (of_z w32 c.year_leap_ordinal-year.result.0) ≡ c.year_leap_ordinal-year.result.0 = search rules in
    rw year c.year_leap_ordinal-year.ensures.date.0

pub at_ordinal_date-requires-clause-ordinal : goal.at_ordinal_date-requires-clause-ordinal
at_ordinal_date-requires-clause-ordinal c =
    let year : to_z w32 (of_z w32 c.year_leap_ordinal-year.result.0) ≡ c.year_leap_ordinal-year.result.0 = search rules in
    let place = c.year_leap_ordinal-year.ensures.date.1 in
    rw year (record { first = place.0; last = place.1 })
