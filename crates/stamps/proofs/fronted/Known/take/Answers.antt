use Rattle.std.proofs.Common.{◌≡◌, ◌∙◌, refl, sym}
use Rattle.stamps.proofs.FrontRunLemmas.{known_next}
use Rattle.stamps.proofs.LongLineLemmas.{line_stamp-within}
use Rattle.stamps.specs.FrontRuns.{is_first, reader_now}
use Rattle.stamps.proofs.fronted.Known.take.Goals as goal

pub lead_if-lead-requires-clause-within : goal.lead_if-lead-requires-clause-within
lead_if-lead-requires-clause-within c =
    let self = c.args.self.now in
    let turning = c.args.turning.now in
    rw (c.line_stamp-found.ensures, c.reader-reader.ensures) (line_stamp-within (reader_now turning self) self.last (is_first self) c.args.line.now)

pub returns-in-Ok-clause-known : goal.returns-in-Ok-clause-known
returns-in-Ok-clause-known c =
    known_next c.args.turning.now c.args.self.now c.args.line.now c.line_stamp-found.result _ _ _ c.kind_of-kind.result
    (rw c.reader-reader.ensures at c.line_stamp-found.ensures) (rw c.in-Ok.is refl) c.saturating_add-self.ensures
    (rw c.is_ok.ensures.value at c.kind_of-kind.ensures) c.take.ensures

pub returns-in-Err-clause-known : goal.returns-in-Err-clause-known
returns-in-Err-clause-known c =
    known_next c.args.turning.now c.args.self.now c.args.line.now c.line_stamp-found.result _ _ _ c.kind_of-kind.result
    (rw c.reader-reader.ensures at c.line_stamp-found.ensures) (rw c.in-Err.is refl) c.saturating_add-self.ensures
    (rw c.is_ok.ensures.value at c.kind_of-kind.ensures) c.take.ensures
