-- How often the clocks of a zone show the wall clocks of lines.
use Rattle.std.specs.Prelude.{◌≡◌, ℕ, if◌then◌else◌, List, drop, ℤ, pos, Option, Some, None, Result, Ok, Err}
use Rattle.calendar_values.specs.WallClock.{unix_seconds_of}
use Rattle.log_forms.specs.Lacking.{lacks_offset}
use Rattle.log_forms.specs.Years.{assumed_after}
use Rattle.log_forms.specs.declared.instants.Assumed.{Assumed}
use Rattle.log_forms.specs.declared.stamps.Stamp.{Stamp}
use Rattle.log_forms.specs.declared.stamps.StampRefusal.{StampRefusal}
use Rattle.log_zones.specs.Showings.{IsShowing}
use Rattle.log_zones.specs.declared.showings.Showing.{Showing}
use Rattle.stamps.specs.Zoned.{at_offset, stamp_by, zone_of}
use Rattle.stamps.specs.declared.readers.FormReader.{FormReader}
use Rattle.stamps.specs.declared.readers.Reader.{Reader}
use Rattle.stamps.specs.declared.readers.Reader.TheVariants.{Plain, Formed}
use Rattle.zones.specs.Zones.{ZoneParts}

-- the wall clock of a stamp that was read by clocks in UTC, if there is a stamp
abbrev pub wall_if_ok : Result Stamp StampRefusal → Option ℤ
wall_if_ok (Ok stamp) = Some stamp.instant
wall_if_ok (Err refusal) = None

-- the wall clock, unless there is a stamp with an offset of its own
abbrev pub wall_unless_ok : Result Stamp StampRefusal → Option ℤ → Option ℤ
wall_unless_ok (Ok stamp) wall = None
wall_unless_ok (Err refusal) wall = wall

-- the wall clock of a stamp without an offset of its own
abbrev pub zone_wall : FormReader → Assumed → List ℕ → Option ℤ
zone_wall by assumed text =
    let wall = wall_if_ok (stamp_by by (at_offset (Some (pos 0)) assumed) text) in
    if lacks_offset by.form.items then wall else wall_unless_ok (stamp_by by (at_offset None assumed) text) wall

-- how often clocks of the zone show a wall clock, if there is one
abbrev pub IsWallShowing : ZoneParts → Option ℤ → Option Showing → Type 0
IsWallShowing z None found = found ≡ None
IsWallShowing z (Some wall) found = (showing : Showing) × (found ≡ Some showing) × IsShowing z (unix_seconds_of wall) showing

-- the same of the wall clock of a text, if the reader has a zone
abbrev pub IsFormShowing : Option ZoneParts → FormReader → Option ℤ → List ℕ → Option Showing → Type 0
IsFormShowing None by last text found = found ≡ None
IsFormShowing (Some z) by last text found = IsWallShowing z (zone_wall by (assumed_after by.assumed last) text) found

-- and of a line with this many bytes before its text
abbrev pub IsLineShowing : Reader → Option ℤ → ℕ → List ℕ → Option Showing → Type 0
IsLineShowing Plain last before line found = found ≡ None
IsLineShowing (Formed by) last before line found = IsFormShowing (zone_of by) by last (drop before line) found
