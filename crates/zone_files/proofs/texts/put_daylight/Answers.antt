use Rattle.std.proofs.Common.{◌≡◌, ◌++◌, to_z, of_z, rules, refl, w32}
use Rattle.zone_files.specs.RuleTexts.{daylight_offset_text, daylight_text, moment_text}
use Rattle.zone_files.specs.Rules.{moment_parts}
use Rattle.zone_files.proofs.TwoLemmas.{then_as_two}
use Rattle.zone_files.proofs.texts.put_daylight.Goals as goal

pub returns : goal.returns
unfolding daylight_text
returns c =
    let s : to_z w32 (of_z w32 c.args.standard) ≡ c.args.standard = search rules in
    let o : to_z w32 (of_z w32 c.args.daylight.offset) ≡ c.args.daylight.offset = search rules in
    let moments = moment_text (moment_parts c.args.daylight.from) ++ moment_text (moment_parts c.args.daylight.until) in
    let e : daylight_offset_text (to_z w32 (of_z w32 c.args.standard)) (to_z w32 (of_z w32 c.args.daylight.offset)) ++ moments
    ≡ daylight_offset_text c.args.standard c.args.daylight.offset ++ moments = rw s (rw o refl) in
    then_as_two c.put_offset_and_moments.result c.args.out.now.items c.put_name.new.out.items c.put_offset_and_moments.new.out.items _ _ _
    c.in_ok-put_name.ensures e c.put_offset_and_moments.ensures
