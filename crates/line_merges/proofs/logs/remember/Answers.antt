use Rattle.std.proofs.Common.{◌≡◌, ◌∙◌, refl}
use Rattle.line_merges.proofs.LineLemmas.{line_in-found}
use Rattle.line_merges.proofs.logs.remember.Goals as goal

pub returns-clause-memory : goal.returns-clause-memory
returns-clause-memory g c =
    let front = c.args.front.now in
    let found = c.line_end-end.ensures in
    let bytes : c.bytes.result.now ≡ front.buffer = c.bytes.ensures.value ∙ found.same in
    c.remember.ensures
    ∙ rw (c.saturating_add-number.ensures, bytes, line_in-found front.buffer c.line_end-end.result found.bound found.before found.byte_there) refl
