-- Laws of gaps: no mark of a gap has a value, so a call that goes past gaps goes past no row that another call reads.
-- A function of `src/laws.rt` proves them.
use Rattle.std.specs.Prelude.{◌≡◌, ℤ, false, Ok}
use Rattle.std.specs.declared.cmp.Ordering.{Ordering}
use Rattle.offset_times.specs.Local.{Local}
use Rattle.muxandu_c.specs.Gaps.{is_gap, is_no_duration, no_date_time, no_order}
use Rattle.muxandu_c.specs.Moments.{moment_value}
use Rattle.muxandu_c.specs.Values.{date_time_value, duration_value, sign_of}
use Rattle.muxandu_c.specs.declared.moments.MuxanduMoment.{MuxanduMoment}
use Rattle.muxandu_c.specs.declared.values.MuxanduDuration.{MuxanduDuration}

-- a row that has an instant, and a duration of the range, are no gaps; the marks of the others are no date-time and no order
pub record GapsHaveNoValues : Type 0 where
  pub moment : (v : MuxanduMoment) (i : ℤ) → moment_value v ≡ Ok i → is_gap v ≡ false
  pub duration : (w : MuxanduDuration) (d : ℤ) → duration_value w ≡ Ok d → is_no_duration w ≡ false
  pub date_time : (at : Local) → ¬ (date_time_value no_date_time ≡ Ok at)
  pub order : (o : Ordering) → ¬ (sign_of o ≡ no_order)
