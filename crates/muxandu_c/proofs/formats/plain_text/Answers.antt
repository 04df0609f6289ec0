use Rattle.muxandu_c.proofs.DescriptionLemmas.{text_unless_lacking}
use Rattle.muxandu_c.proofs.formats.plain_text.Goals as goal

pub returns : goal.returns
returns c =
    let written = c.format_plain.ensures in
    text_unless_lacking _ _ c.format_plain.result _ c.text_or_refused.ensures written.text written.lacks written.no_text
