use Rattle.rfc3339.proofs.LengthLemmas.{length-utc_text}
use Rattle.rfc3339.proofs.length_laws.texts_in_utc_have_thirty_bytes.Goals as goal

pub returns : goal.returns
returns c = length-utc_text
