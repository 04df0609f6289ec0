-- Columns of instants in a time zone.
use Rattle.std.proofs.Common.{◌≡◌, ℤ, ap, refl, subst, Result, Ok, Err}
use Rattle.zones.specs.Intervals.{Holds, IsWithin}
use Rattle.zones.specs.Zones.{ZoneParts, IsZoneOffset}
use Rattle.zones.specs.declared.interval.Interval.{Interval}
use Rattle.zones.specs.declared.time_type.TimeType.{TimeType}
use Rattle.muxandu_c.specs.ZoneBatches.{IsOffsetIn, IsOffsetThen, second_value}
use Rattle.muxandu_c.specs.ZoneOffsets.{After}
use Rattle.muxandu_c.specs.declared.refused.Refused.{Refused}

-- the offset of an interval that is kept is that of the zone at each second in it
offset_held : (z : ZoneParts) (kept : Interval) (second : ℤ) → Holds z kept → IsWithin kept second → IsZoneOffset z second kept.kind.offset
offset_held z kept second holds within =
    let found = holds second within in (found.0, found.1, ap (λ (t : TimeType). t.offset) found.2)

pub offset_in : (z : ZoneParts) (item second : ℤ) (kept : Interval) → Ok second ≡ second_value item → Holds z kept → IsWithin kept second
    → IsOffsetIn z item (Ok kept.kind.offset)
offset_in z item second kept is holds within =
    subst (λ (r : Result ℤ Refused). After r (IsOffsetThen z) (Ok kept.kind.offset)) is (offset_held z kept second holds within)

-- an item that is no second of the range
pub refused_in : (z : ZoneParts) (item : ℤ) (refusal : Refused) → Err refusal ≡ second_value item → IsOffsetIn z item (Err refusal)
refused_in z item refusal is = subst (λ (r : Result ℤ Refused). After r (IsOffsetThen z) (Err refusal)) is refl
