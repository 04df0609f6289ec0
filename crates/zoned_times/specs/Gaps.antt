-- The ends of a gap.
use Rattle.std.specs.Prelude.{ℤ}
use Rattle.offset_times.specs.Local.{shown_at}
use Rattle.utc_times.specs.UnixTime.{instant_of_second}
use Rattle.zoned_times.specs.declared.gap.Gap.{Gap}

-- the first wall clock that a gap skips, by the offset before it
abbrev pub gap_start : Gap → ℤ
gap_start gap = shown_at (instant_of_second gap.second) gap.before

-- the first wall clock after those that it skips, by the offset after it
abbrev pub gap_end : Gap → ℤ
gap_end gap = shown_at (instant_of_second gap.second) gap.after
