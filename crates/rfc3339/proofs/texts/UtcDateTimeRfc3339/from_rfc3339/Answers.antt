use Rattle.std.proofs.Common.{ap, ◌∙◌, Ok}
use Rattle.offset_times.specs.Local.{instant_of, local_in_utc}
use Rattle.offset_times.specs.InstantLemmas.{instant_of-utc}
use Rattle.rfc3339.specs.ReadInstantLemmas.{instant_of-read}
use Rattle.rfc3339.proofs.texts.UtcDateTimeRfc3339.from_rfc3339.Goals as goal

pub returns-clause-value : goal.returns-clause-value
returns-clause-value c p h =
    let read = c.in_ok-parse_rfc3339.ensures.value p h in (read.0, c.to_utc.ensures ∙ ap instant_of read.1)

pub returns-clause-written : goal.returns-clause-written
returns-clause-written c at h e =
    ap Ok (c.to_utc.ensures ∙ instant_of-read c.in_ok-parse_rfc3339.field-0 at (c.in_ok-parse_rfc3339.ensures.written (local_in_utc at) h e))

pub returns-clause-instant : goal.returns-clause-instant
returns-clause-instant c = rw (instant_of-utc c.to_utc.result, c.to_utc.ensures) c.in_ok-parse_rfc3339.ensures.instant
