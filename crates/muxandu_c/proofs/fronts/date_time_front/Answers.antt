use Rattle.muxandu_c.proofs.FrontTextLemmas.{read_of_front, refused_of_front}
use Rattle.muxandu_c.proofs.fronts.date_time_front.Goals as goal

pub returns-in-Ok : goal.returns-in-Ok
returns-in-Ok c = rw c.date_time_of.ensures (read_of_front c.args.text.now _ _ c.in-Ok.ensures.reading)

pub returns-in-Err : goal.returns-in-Err
returns-in-Err c =
    refused_of_front c.args.text.now c.in-Err.refusal c.refused_text.result c.in-Err.ensures.reading c.refused_text.ensures.front
    c.refused_text.ensures.syntax
