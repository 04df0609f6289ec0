-- The texts that the known descriptions write.
use Rattle.std.proofs.Common.{◌≡◌, ◌∙◌, ap, List, ℕ, ℤ, pos, ◌≤ℤ◌, false, true, refl, arith, append_assoc, append-nil, unsigned_abs, nat_eq}
use Rattle.std.specs.Prelude.{int_lt, nat_lt}
use Rattle.std.proofs.lemmas.Bool.Decides.{nat_tests}
use Rattle.calendar_values.specs.Calendar.{year_of}
use Rattle.calendar_values.specs.Digits.{last_digits}
use Rattle.calendar_values.specs.SignedArith.{signed_arith}
use Rattle.calendar_values.specs.Texts.{date_text, time_text, offset_text, year_digits}
use Rattle.calendar_values.specs.WallClock.{wall_day, wall_time}
use Rattle.offset_times.specs.Local.{Local, local_in_utc}
use Rattle.rfc3339.specs.Texts.{HasText, HasFixedText, fixed_text, fixed_text_at, time_offset_text}
use Rattle.format_descriptions.specs.Groups.{written_from, written_items}
use Rattle.format_descriptions.specs.Written.{items_text, flat_text, item_text, component_text, year_text, four_text, two_text, subsecond_text}
use Rattle.format_descriptions.specs.Written.{offset_hour_text}
use Rattle.format_descriptions.specs.Written.{described_text}
use Rattle.format_descriptions.specs.declared.item.Item.{Item}
use Rattle.format_descriptions.specs.declared.modifiers.Padding.TheVariants.{Zero}
use Rattle.format_descriptions.specs.declared.modifiers.Sign.TheVariants.{Automatic}
use Rattle.format_descriptions.specs.Known.{date_items, time_items, offset_items, fixed_items, fixed_items_at}

pub items_text-date : (day : ℤ) (clock : ℕ) (o : ℤ) → items_text date_items day clock o ≡ date_text day
unfolding flat_text item_text written_from component_text year_text four_text two_text date_text last_digits
items_text-date day clock o = simp append_assoc refl

pub items_text-time : (day : ℤ) (clock : ℕ) (o : ℤ) → items_text time_items day clock o ≡ time_text clock
unfolding flat_text item_text written_from component_text two_text time_text subsecond_text
items_text-time day clock o = simp (append_assoc, append-nil) refl

pub items_text-offset : (day : ℤ) (clock : ℕ) (o : ℤ) → items_text offset_items day clock o ≡ offset_text o
unfolding flat_text item_text written_from component_text two_text offset_text offset_hour_text last_digits
items_text-offset day clock o = simp append_assoc refl

-- a year of four digits has no sign
pub year-four : (y : ℤ) → pos 0 ≤ℤ y → y ≤ℤ pos 9_999 → year_text Automatic Zero y ≡ last_digits 4 (unsigned_abs y)
unfolding year_text four_text year_digits
year-four y low high =
    let first : int_lt y (pos 0) ≡ false = grind (arith, signed_arith) in
    let last : int_lt (pos 9_999) y ≡ false = grind (arith, signed_arith) in
    let short : nat_lt (unsigned_abs y) 10_000 ≡ true = grind (arith, signed_arith, nat_tests) in rw (first, last, short) refl

pub described_text-fixed : (i : ℤ) → HasFixedText i → described_text fixed_items (local_in_utc i) ≡ fixed_text i
unfolding flat_text item_text written_from component_text two_text subsecond_text fixed_text last_digits
described_text-fixed i h = rw (year-four (year_of (wall_day i)) h.year_first h.year_last) refl

-- each of its items is written
written-fixed_at : written_items fixed_items_at ≡ fixed_items_at
unfolding written_from
written-fixed_at = refl

flat_text-fixed_at : (at : Local) → HasText at → nat_eq (unsigned_abs at.offset) 0 ≡ false
    → flat_text fixed_items_at (wall_day at.wall) (wall_time at.wall) at.offset ≡ fixed_text_at at
unfolding flat_text item_text component_text two_text subsecond_text fixed_text_at last_digits time_offset_text offset_hour_text
flat_text-fixed_at at h some = rw (year-four (year_of (wall_day at.wall)) h.year_first h.year_last, some) (simp append_assoc refl)

pub described_text-fixed_at : (at : Local) → HasText at → nat_eq (unsigned_abs at.offset) 0 ≡ false → described_text fixed_items_at at ≡ fixed_text_at at
described_text-fixed_at at h some =
    ap (λ (items : List Item). flat_text items (wall_day at.wall) (wall_time at.wall) at.offset) written-fixed_at ∙ flat_text-fixed_at at h some
