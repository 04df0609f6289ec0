use Rattle.std.proofs.Common.{inl, inr}
use Rattle.std.proofs.lemmas.Bool.{cases_Bool}
use Rattle.log_forms.proofs.ApartLemmas.{stamp_at-in_front}
use Rattle.log_forms.proofs.LeftOutLemmas.{no_zone_left, not_ok, whole_same}
use Rattle.log_forms.specs.Instants.{is_whole}
use Rattle.log_forms.specs.Laws.{before_of, rest_of, without_offset}
use Rattle.log_forms.specs.Stamps.{stamp_at}
use Rattle.log_forms.proofs.laws.zones_are_never_left_out.Goals as goal

pub returns : goal.returns
returns c = λ form place text assumed line stamp found fails.
    let h = stamp_at-in_front form place text assumed line stamp found in
    let other = without_offset assumed in
    elim (cases_Bool (is_whole h.parts)) [
      | inl whole ↦ absurd (not_ok (stamp_at form place text other line) stamp (h.same other (whole_same assumed h.parts whole)) fails)
      | inr lacks ↦ no_zone_left h.parts h.spelled (before_of stamp line) (rest_of stamp line) lacks h.apart h.alone
    ]
