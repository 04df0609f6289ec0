-- Rows that may be gaps: a gap leads to a gap, and each other row to what it leads to alone.
use Rattle.std.specs.Prelude.{ℤ, pos, negsuc, Bool, ◌||◌, ◌&&◌, Result, Ok, if◌then◌else◌}
use Rattle.std.specs.Ordering.{int_eq}
use Rattle.muxandu_c.specs.declared.moments.MuxanduMoment.{MuxanduMoment}
use Rattle.muxandu_c.specs.declared.refused.Refused.{Refused}
use Rattle.muxandu_c.specs.declared.values.MuxanduDateTime.{MuxanduDateTime}
use Rattle.muxandu_c.specs.declared.values.MuxanduDuration.{MuxanduDuration}

-- the marks of gaps: a second that no instant has, a duration that is out of range, a month that no date has, and no order
abbrev pub gap : MuxanduMoment
gap = record { seconds = negsuc 9_223_372_036_854_775_807; nanoseconds = 0; offset_seconds = pos 0 }

abbrev pub no_duration : MuxanduDuration
no_duration = record { seconds = pos 9_223_372_036_854_775_807; nanoseconds = pos 2_147_483_647 }

abbrev pub no_date_time : MuxanduDateTime
no_date_time = record {
  year = pos 0;
  month = 0;
  day = 0;
  hour = 0;
  minute = 0;
  second = 0;
  nanosecond = 0;
  offset_seconds = pos 0;
}

abbrev pub no_order : ℤ
no_order = pos 2

-- whether a row is a gap
abbrev pub is_gap : MuxanduMoment → Bool
is_gap v = int_eq v.seconds gap.seconds

abbrev pub is_no_duration : MuxanduDuration → Bool
is_no_duration w = int_eq w.seconds no_duration.seconds && int_eq w.nanoseconds no_duration.nanoseconds

-- a pair of which one row is a gap: a moment, or the other by its own test
abbrev pub has_gap : {B : Type 0} → (B → Bool) → MuxanduMoment × B → Bool
has_gap is_other_gap pair = is_gap pair.0 || is_other_gap pair.1

-- what a row leads to, or the mark of a gap
abbrev pub past_gap : {C : Type 0} → C → (MuxanduMoment → Result C Refused) → MuxanduMoment → Result C Refused
past_gap mark f v = if is_gap v then Ok mark else f v

abbrev pub past_gaps : {B C : Type 0} → (B → Bool) → C → (MuxanduMoment → B → Result C Refused) → MuxanduMoment → B → Result C Refused
past_gaps is_other_gap mark f v w = if has_gap is_other_gap (v, w) then Ok mark else f v w
