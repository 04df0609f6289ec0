use Rattle.lanes.proofs.MinuteTextLemmas.{written-same, form-lanes}
use Rattle.lanes.proofs.minute_texts.is_minute_text.Goals as goal

pub returns : goal.returns
returns c =
    let sixteen = written-same c.args.bytes c.fits-bytes.0 in
    let fits = rw sixteen at c.fits-bytes.1 in
    rw sixteen (form-lanes c.args.bytes fits)
