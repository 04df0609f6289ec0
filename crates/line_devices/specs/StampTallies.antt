-- How many lines of an input have no stamp.
use Rattle.std.specs.Prelude.{ℕ, ◌+◌, ◌-◌, ◌^◌, ◌==◌, ◌&&◌, ◌||◌, Bool, true, false, min, nat_lt, List, [], ◌∷◌, length, if◌then◌else◌, Option, Some, None}
use Rattle.std.specs.List.{count_by, position_from}
use Rattle.std.specs.Option.{option_map}
use Rattle.line_devices.specs.declared.stamp_tallies.LineKind.{LineKind}
use Rattle.line_devices.specs.declared.stamp_tallies.LineKind.TheVariants.{Stamped, Bare, Continued, Empty, Long}
use Rattle.line_devices.specs.declared.stamp_tallies.StampTally.{StampTally}

-- whether a line has no text: no byte, or a carriage return alone
abbrev pub is_empty_line : List ℕ → Bool
is_empty_line [] = true
is_empty_line (byte ∷ []) = byte == 13
is_empty_line (byte ∷ next ∷ rest) = false

-- whether a line begins with a blank or a tab
abbrev pub is_continuation : List ℕ → Bool
is_continuation [] = false
is_continuation (byte ∷ rest) = (byte == 32) || (byte == 9)

-- whether a line has more bytes than those in which a stamp ends
abbrev pub is_long : List ℕ → Bool
is_long line = nat_lt 65500 (length line)

-- the kind of a line, by its bytes and by whether it has a stamp
abbrev pub kind_of : List ℕ → Bool → LineKind
kind_of line true = Stamped
kind_of line false =
    if is_empty_line line then Empty else (if is_long line then Long else (if is_continuation line then Continued else Bare))

-- ---- lines of these kinds

abbrev pub is_text : LineKind → Bool
is_text Stamped = true
is_text Bare = true
is_text Continued = false
is_text Empty = false
is_text Long = true

abbrev pub is_bare : LineKind → Bool
is_bare Stamped = false
is_bare Bare = true
is_bare Continued = false
is_bare Empty = false
is_bare Long = true

abbrev pub is_continued : LineKind → Bool
is_continued Stamped = false
is_continued Bare = false
is_continued Continued = true
is_continued Empty = false
is_continued Long = false

abbrev pub is_long_kind : LineKind → Bool
is_long_kind Stamped = false
is_long_kind Bare = false
is_long_kind Continued = false
is_long_kind Empty = false
is_long_kind Long = true

-- a number as a count, which stops at the greatest
abbrev pub as_count : ℕ → ℕ
as_count count = min count (2 ^ 64 - 1)

-- the tally of lines of these kinds, of which the first has the number 1
unfoldable pub tally_of_kinds : List LineKind → StampTally
tally_of_kinds kinds = record {
  texts = as_count (count_by is_text kinds);
  missing = as_count (count_by is_bare kinds);
  first = option_map as_count (position_from is_bare 1 kinds);
  continued = as_count (count_by is_continued kinds);
  long = as_count (count_by is_long_kind kinds);
  first_long = option_map as_count (position_from is_long_kind 1 kinds);
}

-- ---- one line after another

abbrev pub first_tally : StampTally
first_tally = record { texts = 0; missing = 0; first = None; continued = 0; long = 0; first_long = None }

-- one more, up to the greatest number
abbrev pub one_more_count : ℕ → ℕ
one_more_count count = as_count (count + 1)

-- the number of a line, or this one where there is none
abbrev pub line_or : Option ℕ → ℕ → Option ℕ
line_or (Some line) number = Some line
line_or None number = Some number

-- the tally with one more line of text without a stamp, of a number
abbrev pub with_missing : StampTally → ℕ → StampTally
with_missing tally number = record tally {
  texts = one_more_count tally.texts;
  missing = one_more_count tally.missing;
  first = line_or tally.first number;
}

-- the tally after one more line of a number and a kind
abbrev pub tally_after : StampTally → ℕ → LineKind → StampTally
tally_after tally number Stamped = record tally { texts = one_more_count tally.texts }
tally_after tally number Bare = with_missing tally number
tally_after tally number Continued = record tally { continued = one_more_count tally.continued }
tally_after tally number Empty = tally
tally_after tally number Long = record (with_missing tally number) {
  long = one_more_count tally.long;
  first_long = line_or tally.first_long number;
}

-- ---- what a tally tells

-- whether there are lines, and all continue others
abbrev pub all_continue : StampTally → Bool
all_continue tally = (tally.texts == 0) && nat_lt 0 tally.continued

-- whether a line has no stamp, or all lines continue others
abbrev pub is_due : StampTally → Bool
is_due tally = nat_lt 0 tally.missing || all_continue tally

-- whether more than half of the lines have no stamp, or all lines continue others
abbrev pub is_poor : StampTally → Bool
is_poor tally = nat_lt (tally.texts - tally.missing) tally.missing || all_continue tally
