use Rattle.std.proofs.Common.{sym}
use Rattle.stamps.proofs.NearestLemmas.{word-place}
use Rattle.stamps.proofs.nearest.word_of.Goals as goal

pub returns-clause-word : goal.returns-clause-word
returns-clause-word c =
    sym (word-place c.args.text.now c.place_of-end.result c.place_of-end.ensures.bounds.1 c.place_of-end.ensures.before
    c.place_of-end.ensures.byte_there)
