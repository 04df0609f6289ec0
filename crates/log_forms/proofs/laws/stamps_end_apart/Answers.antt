use Rattle.log_forms.proofs.ApartLemmas.{stamp_at-in_front}
use Rattle.log_forms.proofs.LeftOutLemmas.{apart-word}
use Rattle.log_forms.specs.Laws.{rest_of}
use Rattle.log_forms.proofs.laws.stamps_end_apart.Goals as goal

pub returns : goal.returns
returns c = λ form place text assumed line stamp found.
    let h = stamp_at-in_front form place text assumed line stamp found in
    record { short = h.short; apart = apart-word h.parts h.spelled (rest_of stamp line) h.apart }
