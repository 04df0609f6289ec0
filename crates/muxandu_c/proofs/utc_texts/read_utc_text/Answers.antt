use Rattle.std.proofs.Common.{◌≡◌, Some}
use Rattle.offset_times.specs.Local.{Local}
use Rattle.rfc3339.specs.Meaning.{meaning}
use Rattle.rfc3339.specs.Reading.{reading_of}
use Rattle.rfc3339.specs.ReadingLemmas.{reading_of-parts}
use Rattle.muxandu_c.proofs.UtcTextLemmas.{instants-reading}
use Rattle.muxandu_c.proofs.utc_texts.read_utc_text.Goals as goal

pub returns-in-Some-clause-reading : goal.returns-in-Some-clause-reading
returns-in-Some-clause-reading c =
    let read : reading_of c.args.text.now ≡ meaning c.in-Some.parts = reading_of-parts c.args.text.now (Some c.in-Some.parts) c.in-Some.ensures.value in
    rw read c.utc_value.ensures

pub returns-in-Some-clause-instant : goal.returns-in-Some-clause-instant
returns-in-Some-clause-instant c =
    let read : reading_of c.args.text.now ≡ meaning c.in-Some.parts = reading_of-parts c.args.text.now (Some c.in-Some.parts) c.in-Some.ensures.value in
    instants-reading (λ (at : Local). at) c.args.text.now c.utc_value.result (rw read c.utc_value.ensures)
