use Rattle.format_descriptions.specs.Read.{no_parts}
use Rattle.format_descriptions.specs.RoundTrips.{parts_of}
use Rattle.format_descriptions.specs.Written.{items_text}
use Rattle.log_forms.proofs.ReadBackLemmas.{instant_of_parts-told, stamp_at-whole}
use Rattle.log_forms.specs.Laws.{instant_shown}
use Rattle.log_forms.proofs.laws.form_texts_read_back.Goals as goal

pub returns : goal.returns
returns c = λ items assumed day clock o clear in_range written tell inside short.
    let p = parts_of items day clock o no_parts in
    let names = c.written_values_are_named.ensures items day clock o in_range written in
    let reads = c.written_texts_read_back.ensures items day clock o clear written in
    stamp_at-whole items assumed (items_text items day clock o) p (instant_shown day clock o) reads.reading short
    (instant_of_parts-told assumed p day clock o tell (names.date tell.date) (names.time tell.clock) inside)
