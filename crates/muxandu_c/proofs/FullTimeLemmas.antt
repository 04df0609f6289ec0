-- Texts of a time of day with an offset, and of an offset alone, by their form.
use Rattle.std.proofs.Common.{◌≡◌, ◌⊎◌, inl, inr, ℕ, ℤ, ◌<◌, Bool, List, []}
use Rattle.std.proofs.Common.{append-nil, Some, refl, ap, Result, Ok, Err, arith}
use Rattle.std.specs.Prelude.{codes}
use Rattle.local_texts.specs.LocalForms.{IsFullTime, time_on_date, time_and_offset}
use Rattle.offset_times.specs.Local.{Local}
use Rattle.rfc3339.specs.declared.parts.Parts.{Parts}
use Rattle.rfc3339.specs.declared.refusal.TextRefusal.{TextRefusal}
use Rattle.rfc3339.specs.Form.{IsOffsetText}
use Rattle.rfc3339.specs.FractionLemmas.{zone_again}
use Rattle.rfc3339.specs.Front.{offset_numbers, offset_meaning, offset_reading_of}
use Rattle.rfc3339.specs.FullDates.{IsFullDate}
use Rattle.rfc3339.specs.ReadingLemmas.{reading_of-spelled, reading_of-syntax}
use Rattle.std.specs.Result.{result_map_both}
use Rattle.calendar_values.specs.Digits.{last_digits}
use Rattle.muxandu_c.specs.Answers.{and_then, text_as_refused}
use Rattle.muxandu_c.specs.FullTimes.{full_time_read, full_time_spelled, time_and_offset_parts, offset_read, offset_spelled}
use Rattle.muxandu_c.specs.declared.local_date_times.MuxanduTime.{MuxanduTime}
use Rattle.muxandu_c.specs.declared.refused.Refused.{Refused}
use Rattle.muxandu_c.specs.declared.refused.Refused.TheVariants as refused

pub some_date : IsFullDate (codes "1970-01-01") 1970 1 1
unfolding last_digits
some_date = record { spelled = refl; year_fits = omega arith; month_fits = omega arith; day_fits = omega arith }

-- a result of the library as a caller of this crate sees it
abbrev as_full_time : Result Local TextRefusal → Result (MuxanduTime × ℤ) Refused
as_full_time r = and_then (text_as_refused 1 (result_map_both time_and_offset (λ refusal. refusal) r)) (λ read. Ok (time_and_offset_parts read))

pub full_time-spelled : (t : List ℕ) (p : Parts) → IsFullTime t p → full_time_read t ≡ full_time_spelled p
full_time-spelled t p h = ap as_full_time (reading_of-spelled (time_on_date t) p h)

pub full_time-syntax : (t : List ℕ) → ((p : Parts) × IsFullTime t p) ⊎ (full_time_read t ≡ Err refused.Syntax)
full_time-syntax t =
    elim (reading_of-syntax (time_on_date t)) [
      | inl none ↦ inr (ap as_full_time none)
      | inr some ↦ inl some
    ]

pub offset-spelled : (t : List ℕ) (is_west : Bool) (hour minute : ℕ) → IsOffsetText t is_west hour minute → hour < 100 → minute < 100
    → offset_read t ≡ offset_spelled is_west hour minute
unfolding offset_reading_of
offset-spelled t is_west hour minute h low high =
    let numbers : offset_numbers t ≡ Some (is_west, hour, minute) =
    rw (rw (append-nil t) at (zone_again t is_west hour minute [] h low high)) refl in
    ap (λ o. text_as_refused 1 (offset_meaning o)) numbers
