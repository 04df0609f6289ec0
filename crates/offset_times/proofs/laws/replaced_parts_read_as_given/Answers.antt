use Rattle.std.proofs.Common.{◌≡◌, ap, ℤ, Result, Ok, Err}
use Rattle.calendar_values.specs.Outcomes.{answer_within}
use Rattle.calendar_values.specs.Refusals.{Refusal}
use Rattle.offset_times.specs.Local.{Local, at_offset_of}
use Rattle.offset_times.proofs.laws.replaced_parts_read_as_given.Goals as goal

-- an accepted replacement is that of the wall clock
accepted : (at v : Local) (r : Result ℤ Refusal) → answer_within (at_offset_of at) r ≡ Ok v → r ≡ Ok v.wall
accepted at v (Ok w) e = let same : at_offset_of at w ≡ v = cc in ap (λ (l : Local). Ok l.wall) same
accepted at v (Err refusal) e = absurd cc

pub returns : goal.returns
returns c =
    let parts = c.replaced_parts_read_as_given.ensures in
    record {
      year = λ at v y e. parts.year at.wall v.wall y (accepted at v _ e);
      month = λ at v m first last e. parts.month at.wall v.wall m first last (accepted at v _ e);
      day = λ at v d e. parts.day at.wall v.wall d (accepted at v _ e);
      ordinal = λ at v o e. parts.ordinal at.wall v.wall o (accepted at v _ e);
      hour = λ at v h e. parts.hour at.wall v.wall h (accepted at v _ e);
      minute = λ at v m e. parts.minute at.wall v.wall m (accepted at v _ e);
      second = λ at v s e. parts.second at.wall v.wall s (accepted at v _ e);
      millisecond = λ at v n e. parts.millisecond at.wall v.wall n (accepted at v _ e);
      microsecond = λ at v n e. parts.microsecond at.wall v.wall n (accepted at v _ e);
      nanosecond = λ at v n e. parts.nanosecond at.wall v.wall n (accepted at v _ e);
    }
