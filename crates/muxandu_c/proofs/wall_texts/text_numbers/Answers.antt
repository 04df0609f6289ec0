use Rattle.muxandu_c.proofs.WallTextLemmas.{parts_at-wall, year-read}
use Rattle.muxandu_c.proofs.wall_texts.text_numbers.Goals as goal

pub returns-in-Some-clause-value : goal.returns-in-Some-clause-value
returns-in-Some-clause-value c =
    parts_at-wall c.args.text.now c.in-Some.numbers c.parts_after_second.result c.in-Some.ensures.value c.parts_after_second.ensures.value

pub returns-in-Some-clause-year : goal.returns-in-Some-clause-year
returns-in-Some-clause-year c =
    let text = c.args.text.now in
    let result = c.parts_after_second.result in
    year-read text result (parts_at-wall text c.in-Some.numbers result c.in-Some.ensures.value c.parts_after_second.ensures.value)
