-- The instants of lines, by the last one before them.
use Rattle.std.specs.Prelude.{ℕ, Bool, List, ℤ, Option, Some, None, Result, Ok, Err}
use Rattle.std.specs.Option.{option_and_then, option_or}
use Rattle.plain_times.specs.Sums.{wall_clock_if_any}
use Rattle.stamps.specs.Readers.{line_stamp}
use Rattle.stamps.specs.declared.changes.Anew.{Anew}
use Rattle.stamps.specs.declared.instants.LogReader.{LogReader}
use Rattle.stamps.specs.declared.readers.LineRefusal.{LineRefusal}
use Rattle.stamps.specs.declared.readers.LineStamp.{LineStamp}
use Rattle.stamps.specs.declared.readers.Reader.{Reader}

-- the instant of a stamp, if it is valid
abbrev pub stamp_instant : Result LineStamp LineRefusal → Option ℤ
stamp_instant (Ok stamp) = Some stamp.instant
stamp_instant (Err refusal) = None

-- the instant of a line, if it has a stamp, by the last instant before it
unfoldable pub line_instant : Reader → Option ℤ → Bool → List ℕ → Option ℤ
line_instant reader last is_first line = stamp_instant (line_stamp reader last is_first line)

-- the instant of a line by a last instant that may be out of the range, which then is none
abbrev pub instant_after : Reader → Option ℤ → Bool → List ℕ → Option ℤ
instant_after reader last is_first line = line_instant reader (option_and_then wall_clock_if_any last) is_first line

-- the instant of a line by a reader, or else by another one, if there is one
abbrev pub instant_by : Reader → Option Reader → Option ℤ → Bool → List ℕ → Option ℤ
instant_by reader None last is_first line = instant_after reader last is_first line
instant_by reader (Some other) last is_first line = option_or (instant_after reader last is_first line) (instant_after other last is_first line)

-- the reader of a log, or else that of the words
abbrev pub own_or : Reader → Option Reader → Reader
own_or reader None = reader
own_or reader (Some own) = own

abbrev pub reader_or : Reader → Option LogReader → Reader
reader_or reader None = reader
reader_or reader (Some log) = own_or reader log.chosen.reader

-- how the form of a log is chosen anew, if it is
abbrev pub anew_of : Option LogReader → Option Anew
anew_of None = None
anew_of (Some log) = log.chosen.anew

-- what reads the lines that the first reader does not read, if it is given
abbrev pub other_of : Option LogReader → Option Reader
other_of None = None
other_of (Some log) = log.other
