use Rattle.std.proofs.Common.{◌≡◌, get_or, length, rules}
use Rattle.muxandu_c.proofs.WallTextLemmas.{parts_at-utc_if}
use Rattle.muxandu_c.proofs.utc_texts.utc_parts.Goals as goal

pub returns-clause-value : goal.returns-clause-value
returns-clause-value c =
    let text = c.args.text.now in
    let long : length text ≡ 20 = search rules in
    let end : get_or text 19 0 ≡ 90 = search rules in
    parts_at-utc_if text c.wall_numbers.result long end c.wall_numbers.ensures.utc c.wall_numbers.ensures.value
