use Rattle.std.proofs.Common.{◌≡◌, Some}
use Rattle.offset_times.specs.Local.{Local}
use Rattle.rfc3339.specs.Meaning.{meaning}
use Rattle.rfc3339.specs.Reading.{reading_of}
use Rattle.rfc3339.specs.ReadingLemmas.{reading_of-parts}
use Rattle.muxandu_c.specs.declared.values.MuxanduDateTime.{MuxanduDateTime}
use Rattle.muxandu_c.proofs.UtcTextLemmas.{instants-reading}
use Rattle.muxandu_c.proofs.wall_texts.read_wall_text.Goals as goal

pub returns-in-Some-clause-reading : goal.returns-in-Some-clause-reading
returns-in-Some-clause-reading c =
    let text = c.args.text.now in
    let read : reading_of text ≡ meaning c.in-Some.numbers = reading_of-parts text (Some c.in-Some.numbers) c.in-Some.ensures.value in
    rw read c.value_in_range.ensures.value

pub returns-in-Some-clause-instant : goal.returns-in-Some-clause-instant
returns-in-Some-clause-instant c =
    let text = c.args.text.now in
    let read : reading_of text ≡ meaning c.in-Some.numbers = reading_of-parts text (Some c.in-Some.numbers) c.in-Some.ensures.value in
    instants-reading (λ (z : Local × MuxanduDateTime). z.0) text c.value_in_range.result (rw read c.value_in_range.ensures.value)
