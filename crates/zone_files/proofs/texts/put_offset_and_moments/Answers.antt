use Rattle.std.proofs.Common.{◌≡◌, to_z, of_z, rules, refl, w32}
use Rattle.zone_files.specs.RuleTexts.{daylight_offset_text}
use Rattle.zone_files.proofs.TwoLemmas.{then_two_as}
use Rattle.zone_files.proofs.texts.put_offset_and_moments.Goals as goal

pub returns : goal.returns
returns c =
    let s : to_z w32 (of_z w32 c.args.standard) ≡ c.args.standard = search rules in
    let o : to_z w32 (of_z w32 c.args.offset) ≡ c.args.offset = search rules in
    let e : daylight_offset_text (to_z w32 (of_z w32 c.args.standard)) (to_z w32 (of_z w32 c.args.offset))
    ≡ daylight_offset_text c.args.standard c.args.offset = rw s (rw o refl) in
    then_two_as c.put_moments.result c.args.out.now.items c.put_daylight_offset.new.out.items c.put_moments.new.out.items _ _ _
    c.in_ok-put_daylight_offset.ensures e c.put_moments.ensures
