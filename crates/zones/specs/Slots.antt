-- Offsets that a zone keeps, by slots of 2^23 seconds, about 97 days, from 1970 on.
use Rattle.std.specs.Prelude.{ℕ, ◌*◌, ◌<◌, if◌then◌else◌, ℤ, pos, ◌≤ℤ◌, int_le, int_lt, List, length, get_or, Option, Some, None, IfSome}
use Rattle.zones.specs.declared.interval.Interval.{Interval}
use Rattle.zones.specs.declared.slot.Slot.{Slot}
use Rattle.zones.specs.Zones.{ZoneParts, IsZoneOffset}

-- the second up to which two intervals follow one another
abbrev pub until_of : Interval → Interval → ℤ
until_of first last = if int_le last.from first.until then last.until else first.until

-- the offset that a slot has at a second, if it has one: the one before its turn, or the one from it on
abbrev pub slot_offset : Slot → ℤ → Option ℤ
slot_offset slot t = if int_lt t slot.until then Some (if int_lt t slot.turn then slot.before else slot.after) else None

-- what a slot has at each second from its start on is the offset of the zone
abbrev pub IsSlot : ZoneParts → ℕ → Slot → Type 0
IsSlot z n slot = (t : ℤ) → pos (8_388_608 * n) ≤ℤ t → IfSome (slot_offset slot t) (IsZoneOffset z t)

-- what stands for a slot past the end of a list
abbrev pub no_slot : Slot
no_slot = record {
  turn = pos 0;
  until = pos 0;
  before = pos 0;
  after = pos 0;
}

-- the slots at their places in a list
abbrev pub AreSlots : ZoneParts → List Slot → Type 0
AreSlots z slots = (n : ℕ) → n < length slots → IsSlot z n (get_or slots n no_slot)
