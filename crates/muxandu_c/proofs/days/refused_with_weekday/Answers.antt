use Rattle.std.proofs.Common.{rules, FitsSigned, w32, to_z-of_z}
use Rattle.muxandu_c.proofs.WeekDateLemmas.{refused_with_weekday-accepted}
use Rattle.muxandu_c.proofs.days.refused_with_weekday.Goals as goal

pub returns-in-Ok : goal.returns-in-Ok
returns-in-Ok c =
    let fits : FitsSigned w32 c.args.year = search rules in
    refused_with_weekday-accepted c.args.year c.args.week _ (simp to_z-of_z at c.in-Ok.ensures.value.value.0)
