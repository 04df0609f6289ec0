use Rattle.std.proofs.Common.{◌+◌, rules}
use Rattle.calendar_values.specs.Range.{IsDay}
use Rattle.muxandu_c.proofs.DayBatchLemmas.{day_at, day-back, values_of-days, status_of_items-days}
use Rattle.muxandu_c.proofs.day_batches.put_date_group.Goals as goal

pub returns-then-are_days-clause-values : goal.returns-then-are_days-clause-values
returns-then-are_days-clause-values c = λ done.
    let days = c.args.days.now in
    let place = c.args.place in
    let a : IsDay (day_at days place) = search rules in
    let b : IsDay (day_at days (place + 1)) = search rules in
    let third : IsDay (day_at days (place + 2)) = search rules in
    let d : IsDay (day_at days (place + 3)) = search rules in
    let put = simp (day-back _ a, day-back _ b, day-back _ third, day-back _ d) at c.put_dates.ensures in
    rw put (values_of-days days place c.args.out.now c.requires.items c.requires.room a b third d)

pub returns-then-are_days-clause-status : goal.returns-then-are_days-clause-status
returns-then-are_days-clause-status c = λ done.
    let days = c.args.days.now in
    let place = c.args.place in
    let a : IsDay (day_at days place) = search rules in
    let b : IsDay (day_at days (place + 1)) = search rules in
    let third : IsDay (day_at days (place + 2)) = search rules in
    let d : IsDay (day_at days (place + 3)) = search rules in
    status_of_items-days days place c.requires.items a b third d
