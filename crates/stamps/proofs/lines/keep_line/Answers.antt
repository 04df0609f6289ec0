use Rattle.std.proofs.lemmas.Result.{err_from_is_err_and}
use Rattle.stamps.proofs.lines.keep_line.Goals as goal

pub returns-in_err-send_all-clause-kept : goal.returns-in_err-send_all-clause-kept
returns-in_err-send_all-clause-kept g c =
    let p = err_from_is_err_and c.from_residual.result c.from_residual.ensures.1 in rw (p.1, p.2) c.in_err-send_all.ensures.sent
