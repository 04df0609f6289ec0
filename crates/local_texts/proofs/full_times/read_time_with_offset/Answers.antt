use Rattle.std.proofs.Common.{◌∙◌}
use Rattle.local_texts.proofs.FullTimeLemmas.{full_time-halves}
use Rattle.local_texts.proofs.full_times.read_time_with_offset.Goals as goal

pub returns : goal.returns
returns c =
    rw (c.split_at.ensures.front, c.split_at.ensures.back) at c.read_both.ensures
    ∙ full_time-halves c.args.text.now c.valid_bytes.result c.valid_bytes.ensures.count
