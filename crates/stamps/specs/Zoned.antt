-- The stamps of texts whose wall clocks are those of a time zone.
use Rattle.std.specs.Prelude.{ℕ, if◌then◌else◌, List, ℤ, pos, Option, Some, None, option_map, Result, Ok, Err}
use Rattle.std.specs.Borrow.{Bor}
use Rattle.format_descriptions.specs.declared.value_refusal.Field.TheVariants.{Hour, Year}
use Rattle.format_descriptions.specs.declared.value_refusal.ValueRefusal.TheVariants.{Wrong}
use Rattle.log_forms.specs.Lacking.{lacks_offset}
use Rattle.log_forms.specs.Stamps.{stamp_at}
use Rattle.log_forms.specs.declared.instants.Assumed.{Assumed}
use Rattle.log_forms.specs.declared.stamps.Stamp.{Stamp}
use Rattle.log_forms.specs.declared.stamps.StampRefusal.{StampRefusal}
use Rattle.log_forms.specs.declared.stamps.StampRefusal.TheVariants.{Part}
use Rattle.log_zones.specs.Instants.{zone_instant}
use Rattle.log_zones.specs.declared.instants.NoInstant.{NoInstant}
use Rattle.log_zones.specs.declared.instants.NoInstant.TheVariants.{Skipped, OutOfRange}
use Rattle.stamps.specs.declared.readers.FormReader.{FormReader}
use Rattle.stamps.specs.declared.readers.Reader.{Reader}
use Rattle.stamps.specs.declared.readers.Reader.TheVariants.{Plain, Formed}
use Rattle.zones.specs.Zones.{ZoneParts}

-- the zone of a reader, if it has one
abbrev pub zone_of : FormReader → Option ZoneParts
zone_of by = option_map (λ zone. zone.now) by.zone

-- the reader with a zone, or with none: that of RFC 3339 at the front needs none
abbrev pub with_zone : Option (Bor ZoneParts) → Reader → Reader
with_zone given Plain = Plain
with_zone given (Formed by) = Formed (record by { zone = given })

-- the stamp of a text in a form, at its place, by what is assumed
abbrev pub stamp_by : FormReader → Assumed → List ℕ → Result Stamp StampRefusal
stamp_by by assumed text = stamp_at by.form by.place by.text assumed text

-- a stamp at an instant, if there is one: the hour of a wall clock that is skipped is out of range
abbrev pub at_instant : Stamp → Result ℤ NoInstant → Result Stamp StampRefusal
at_instant stamp (Ok i) = Ok (record stamp { instant = i })
at_instant stamp (Err Skipped) = Err (Part (Wrong Hour))
at_instant stamp (Err OutOfRange) = Err (Part (Wrong Year))

-- a stamp that was read by clocks in UTC, at the instant at which clocks of the zone show its wall clock
abbrev pub in_zone : ZoneParts → Result Stamp StampRefusal → Result Stamp StampRefusal
in_zone z (Ok stamp) = at_instant stamp (zone_instant z stamp.instant)
in_zone z (Err refusal) = Err refusal

-- what is assumed, with this offset or without one
abbrev pub at_offset : Option ℤ → Assumed → Assumed
at_offset offset assumed = record assumed { offset = offset }

-- a stamp with an offset of its own, or else one by the zone
abbrev pub own_or_zoned : ZoneParts → Result Stamp StampRefusal → Result Stamp StampRefusal → Result Stamp StampRefusal
own_or_zoned z (Ok stamp) wall = Ok stamp
own_or_zoned z (Err refusal) wall = in_zone z wall

-- the stamp of a text: with an offset of its own, or else by the zone
abbrev pub zoned_stamp : ZoneParts → FormReader → Assumed → List ℕ → Result Stamp StampRefusal
zoned_stamp z by assumed text =
    let wall = stamp_by by (at_offset (Some (pos 0)) assumed) text in
    if lacks_offset by.form.items then in_zone z wall else own_or_zoned z (stamp_by by (at_offset None assumed) text) wall

-- the stamp of a text, by the zone of the reader if it has one
abbrev pub assumed_stamp : Option ZoneParts → FormReader → Assumed → List ℕ → Result Stamp StampRefusal
assumed_stamp None by assumed text = stamp_by by assumed text
assumed_stamp (Some z) by assumed text = zoned_stamp z by assumed text
