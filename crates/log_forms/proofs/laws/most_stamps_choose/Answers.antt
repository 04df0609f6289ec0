use Rattle.std.proofs.Common.{[], ◌∷◌, Some, None}
use Rattle.log_forms.proofs.ChoiceLawLemmas.{both-chosen, most-chosen, none-most, not-by_both}
use Rattle.log_forms.proofs.laws.most_stamps_choose.Goals as goal

pub returns-clause-both : goal.returns-clause-both
returns-clause-both c = λ first second lines reader finds.
    both-chosen first second lines reader finds.inside finds.both finds.first

pub returns-clause-most : goal.returns-clause-most
returns-clause-most c = λ first second lines reader none finds.
    not-by_both first second lines (Some reader) none
    (most-chosen (first ∷ second ∷ lines) reader finds.inside finds.some finds.most finds.first)

pub returns-clause-one : goal.returns-clause-one
returns-clause-one c = λ line reader finds. most-chosen (line ∷ []) reader finds.inside finds.some finds.most finds.first

pub returns-clause-nothing : goal.returns-clause-nothing
returns-clause-nothing c = λ first second lines none nothing.
    not-by_both first second lines None none (none-most (first ∷ second ∷ lines) nothing)
