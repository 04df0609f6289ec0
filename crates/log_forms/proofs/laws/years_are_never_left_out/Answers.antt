use Rattle.std.proofs.Common.{inl, inr}
use Rattle.std.proofs.lemmas.Bool.{cases_Bool}
use Rattle.std.specs.Prelude.{◌&&◌, not}
use Rattle.log_forms.proofs.ApartLemmas.{stamp_at-in_front}
use Rattle.log_forms.proofs.LeftOutLemmas.{dated_same, no_year_left, not_ok}
use Rattle.log_forms.specs.Instants.{has_count, lacks_year}
use Rattle.log_forms.specs.Laws.{rest_of, without_year}
use Rattle.log_forms.specs.Stamps.{stamp_at}
use Rattle.log_forms.proofs.laws.years_are_never_left_out.Goals as goal

pub returns : goal.returns
returns c = λ form place text assumed line stamp found fails.
    let h = stamp_at-in_front form place text assumed line stamp found in
    let other = without_year assumed in
    elim (cases_Bool (lacks_year h.parts && not (has_count h.parts))) [
      | inl lacks ↦ no_year_left h.parts h.spelled (rest_of stamp line) lacks h.apart
      | inr dated ↦ absurd (not_ok (stamp_at form place text other line) stamp (h.same other (dated_same assumed h.parts dated)) fails)
    ]
