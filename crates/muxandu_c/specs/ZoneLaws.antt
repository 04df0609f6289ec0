-- Laws of the calls over time zones. A function of `src/zone_laws.rt` proves each of them.
use Rattle.std.specs.Prelude.{◌≡◌, ◌⊎◌, ℕ, ◌<◌, ℤ, ◌≤ℤ◌, ◌<ℤ◌, Result, Ok, Err}
use Rattle.offset_times.specs.Local.{Local, shown_at}
use Rattle.stamp_times.specs.Instants.{instant_of_parts}
use Rattle.utc_times.specs.UnixTime.{instant_of_second}
use Rattle.zones.specs.Zones.{ZoneParts}
use Rattle.zone_files.specs.declared.file_faults.FilePart.{FilePart}
use Rattle.zoned_times.specs.Choices.{compatible_of, earlier_of, later_of, only_of}
use Rattle.zoned_times.specs.Zoned.{HasOffset}
use Rattle.zoned_times.specs.declared.local_refusal.LocalRefusal.{LocalRefusal}
use Rattle.zoned_times.specs.declared.local_times.LocalTimes.{LocalTimes}
use Rattle.muxandu_c.specs.ZoneChoices.{choice_numbered, chosen_of}
use Rattle.muxandu_c.specs.ZoneInstants.{AreInstants}
use Rattle.muxandu_c.specs.ZoneReads.{reason_of_part}
use Rattle.muxandu_c.specs.declared.refused.Refused.TheVariants as refused
use Rattle.muxandu_c.specs.declared.zone_choices.Choice.{Choice}
use Rattle.muxandu_c.specs.declared.zone_instants.MuxanduZoneInstants.{MuxanduZoneInstants}

-- the clocks of a zone show a wall clock at an instant
abbrev pub ShowsThen : ZoneParts → ℤ → ℤ → Type 0
ShowsThen z wall instant = (o : ℤ) × HasOffset z instant o × (shown_at instant o ≡ wall)

-- the two instants of numbers
abbrev pub earlier_instant : MuxanduZoneInstants → ℤ
earlier_instant found = instant_of_parts found.earlier_seconds found.nanoseconds

abbrev pub later_instant : MuxanduZoneInstants → ℤ
later_instant found = instant_of_parts found.later_seconds found.nanoseconds

-- the instant is one of those that the numbers count
abbrev pub IsCounted : ℤ → MuxanduZoneInstants → Type 0
IsCounted instant found =
    ((found.count ≡ 1) × (instant ≡ earlier_instant found))
    ⊎ ((found.count ≡ 2) × ((instant ≡ earlier_instant found) ⊎ (instant ≡ later_instant found)))

-- the numbers for a wall clock count the instants at which the clocks of the zone show it, and no others; two are in their order; where
-- there is none, the clocks skip the wall clock at a second
pub record InstantsAreExact : Type 0 where
  pub complete : (z : ZoneParts) (wall instant : ℤ) (found : MuxanduZoneInstants) → AreInstants z wall found → ShowsThen z wall instant
      → IsCounted instant found
  pub sound : (z : ZoneParts) (wall instant : ℤ) (found : MuxanduZoneInstants) → AreInstants z wall found → IsCounted instant found
      → ShowsThen z wall instant
  pub order : (z : ZoneParts) (wall : ℤ) (found : MuxanduZoneInstants) → AreInstants z wall found → found.count ≡ 2
      → earlier_instant found <ℤ later_instant found
  pub skipped : (z : ZoneParts) (wall : ℤ) (found : MuxanduZoneInstants) → AreInstants z wall found → found.count ≡ 0
      → (shown_at (instant_of_second found.gap_second) found.later_offset_seconds ≤ℤ wall)
      × (wall <ℤ shown_at (instant_of_second found.gap_second) found.earlier_offset_seconds)

-- the choice of a number takes this date-time of those of a wall clock
pub record Takes (number : ℕ) (take : LocalTimes → Result Local LocalRefusal) : Type 0 where
  pub choice : Choice
  pub numbered : choice_numbered number ≡ Ok choice
  pub taken : (times : LocalTimes) → chosen_of choice times ≡ take times

-- the numbers 1 to 4 are the choices of the header, in its order, and no other number is one
pub record ChoicesAreNumbered : Type 0 where
  pub compatible : Takes 1 compatible_of
  pub earlier : Takes 2 earlier_of
  pub later : Takes 3 later_of
  pub reject : Takes 4 only_of
  pub zero : choice_numbered 0 ≡ Err refused.Unit
  pub others : (number : ℕ) → 4 < number → choice_numbered number ≡ Err refused.Unit

-- parts of a file that are at fault have reasons of their own
abbrev pub ReasonsAreApart : Type 0
ReasonsAreApart = (one other : FilePart) → reason_of_part one ≡ reason_of_part other → one ≡ other
