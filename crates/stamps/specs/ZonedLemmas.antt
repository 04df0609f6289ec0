-- A stamp by a zone stands in its text, and the first bytes of the text decide on it.
use Rattle.std.proofs.Common.{◌≡◌, ℕ, ◌≤◌, Bool, true, false, cond, ◌++◌, List, length, ap, ap₂, Option, Some, None, Result, Ok, Err, ℤ}
use Rattle.std.specs.Prelude.{pos, if◌then◌else◌}
use Rattle.log_forms.specs.Lacking.{lacks_offset}
use Rattle.log_forms.specs.WithinLemmas.{StampWithin, stamp_at-longer, stamp_at-within}
use Rattle.log_forms.specs.declared.instants.Assumed.{Assumed}
use Rattle.log_forms.specs.declared.stamps.Stamp.{Stamp}
use Rattle.log_forms.specs.declared.stamps.StampRefusal.{StampRefusal}
use Rattle.log_zones.specs.Instants.{zone_instant}
use Rattle.log_zones.specs.declared.instants.NoInstant.{NoInstant}
use Rattle.log_zones.specs.declared.instants.NoInstant.TheVariants.{Skipped, OutOfRange}
use Rattle.stamps.specs.Zoned.{assumed_stamp, at_instant, at_offset, in_zone, own_or_zoned, stamp_by, zoned_stamp}
use Rattle.stamps.specs.declared.readers.FormReader.{FormReader}
use Rattle.zones.specs.Zones.{ZoneParts}

-- ---- within the text

at_instant-within : (stamp : Stamp) (found : Result ℤ NoInstant) (n : ℕ) → StampWithin (Ok stamp) n → StampWithin (at_instant stamp found) n
at_instant-within stamp (Ok i) n h = h
at_instant-within stamp (Err Skipped) n h = tt
at_instant-within stamp (Err OutOfRange) n h = tt

in_zone-within : (z : ZoneParts) (wall : Result Stamp StampRefusal) (n : ℕ) → StampWithin wall n → StampWithin (in_zone z wall) n
in_zone-within z (Ok stamp) n h = at_instant-within stamp (zone_instant z stamp.instant) n h
in_zone-within z (Err refusal) n h = tt

own_or_zoned-within : (z : ZoneParts) (own wall : Result Stamp StampRefusal) (n : ℕ) → StampWithin own n → StampWithin wall n
    → StampWithin (own_or_zoned z own wall) n
own_or_zoned-within z (Ok stamp) wall n h k = h
own_or_zoned-within z (Err refusal) wall n h k = in_zone-within z wall n k

either-within : (b : Bool) (one other : Result Stamp StampRefusal) (n : ℕ) → StampWithin one n → StampWithin other n → StampWithin (cond b one other) n
either-within true one other n h k = h
either-within false one other n h k = k

pub assumed_stamp-within : (zone : Option ZoneParts) (by : FormReader) (assumed : Assumed) (text : List ℕ)
    → StampWithin (assumed_stamp zone by assumed text) (length text)
assumed_stamp-within None by assumed text = stamp_at-within by.form by.place by.text assumed text
assumed_stamp-within (Some z) by assumed text =
    let wall = stamp_by by (at_offset (Some (pos 0)) assumed) text in
    let own = stamp_by by (at_offset None assumed) text in
    let in_wall = stamp_at-within by.form by.place by.text (at_offset (Some (pos 0)) assumed) text in
    let in_own = stamp_at-within by.form by.place by.text (at_offset None assumed) text in
    either-within (lacks_offset by.form.items) (in_zone z wall) (own_or_zoned z own wall) (length text)
    (in_zone-within z wall (length text) in_wall) (own_or_zoned-within z own wall (length text) in_own in_wall)

-- ---- by the first bytes

pub assumed_stamp-longer : (zone : Option ZoneParts) (by : FormReader) (assumed : Assumed) (text part : List ℕ) → 65533 ≤ length text
    → assumed_stamp zone by assumed (text ++ part) ≡ assumed_stamp zone by assumed text
assumed_stamp-longer None by assumed text part long = stamp_at-longer by.form by.place by.text assumed text part long
assumed_stamp-longer (Some z) by assumed text part long =
    ap₂ (λ (own wall : Result Stamp StampRefusal). if lacks_offset by.form.items then in_zone z wall else own_or_zoned z own wall)
    (stamp_at-longer by.form by.place by.text (at_offset None assumed) text part long)
    (stamp_at-longer by.form by.place by.text (at_offset (Some (pos 0)) assumed) text part long)
