use Rattle.std.proofs.Common.{◌∙◌, sym}
use Rattle.muxandu_c.proofs.WallTextLemmas.{nineteen-same, front_at-wall}
use Rattle.muxandu_c.proofs.wall_texts.wall_numbers.Goals as goal

pub returns-then-is_second-clause-value : goal.returns-then-is_second-clause-value
returns-then-is_second-clause-value c =
    let text = c.args.text.now in
    let written = nineteen-same text c.requires in
    let form = c.is_minute_text.ensures.0 c.if-is_minute_text.true in
    let second = sym c.is_second.ensures ∙ c.if-is_second.true in
    let read = rw written at (front_at-wall text c.requires form second) in
    rw (c.from.ensures, c.from-then-is_second.ensures, c.minute_text_numbers.ensures, written) read
