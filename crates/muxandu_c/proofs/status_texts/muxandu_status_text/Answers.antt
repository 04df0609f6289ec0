use Rattle.muxandu_c.proofs.StatusTextLemmas.{words_tell, words_are_plain}
use Rattle.muxandu_c.proofs.status_texts.muxandu_status_text.Goals as goal

pub returns-clause-ascii : goal.returns-clause-ascii
returns-clause-ascii c = (words_are_plain c.args.status).0

pub returns-clause-room : goal.returns-clause-room
returns-clause-room c = (words_are_plain c.args.status).1

pub returns-clause-own : goal.returns-clause-own
returns-clause-own c other e = words_tell other c.args.status e
