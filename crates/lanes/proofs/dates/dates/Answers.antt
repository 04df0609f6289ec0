use Rattle.std.proofs.Common.{◌≡◌, rules, w32, to_z, of_z}
use Rattle.lanes.proofs.DateLemmas.{IsShiftedDay-in_lane, date_by_steps-in_lane, four-dates}
use Rattle.lanes.proofs.dates.dates.Goals as goal

pub dates_of_shifted_days-requires : goal.dates_of_shifted_days-requires
dates_of_shifted_days-requires c =
    let a : to_z w32 (of_z w32 c.args.a) ≡ c.args.a = search rules in
    let b : to_z w32 (of_z w32 c.args.b) ≡ c.args.b = search rules in
    let third : to_z w32 (of_z w32 c.args.c) ≡ c.args.c = search rules in
    let d : to_z w32 (of_z w32 c.args.d) ≡ c.args.d = search rules in
    let days = rw (a, b, third, d) at c.shifted_days.ensures in
    rw days (
      IsShiftedDay-in_lane c.args.a c.requires.a,
      (
        IsShiftedDay-in_lane c.args.b c.requires.b,
        (IsShiftedDay-in_lane c.args.c c.requires.c, (IsShiftedDay-in_lane c.args.d c.requires.d, tt)),
      ),
    )

pub returns : goal.returns
returns c =
    let a : to_z w32 (of_z w32 c.args.a) ≡ c.args.a = search rules in
    let b : to_z w32 (of_z w32 c.args.b) ≡ c.args.b = search rules in
    let third : to_z w32 (of_z w32 c.args.c) ≡ c.args.c = search rules in
    let d : to_z w32 (of_z w32 c.args.d) ≡ c.args.d = search rules in
    let days = rw (a, b, third, d) at c.shifted_days.ensures in
    rw (c.dates_of_shifted_days.ensures, days)
    (four-dates (date_by_steps-in_lane c.args.a c.requires.a) (date_by_steps-in_lane c.args.b c.requires.b)
    (date_by_steps-in_lane c.args.c c.requires.c) (date_by_steps-in_lane c.args.d c.requires.d))
