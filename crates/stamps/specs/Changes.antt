-- The form that changes within an input: 15 lines with text in a row have no stamp, and two of the next ones choose another form.
use Rattle.std.specs.Prelude.{ℕ, ◌+◌, ◌-◌, ◌*◌, ◌^◌, ◌==◌, min, nat_le, nat_lt, List, [], ◌∷◌, ◌++◌, length, take, if◌then◌else◌}
use Rattle.std.specs.Prelude.{Option, Some, None, Result, Ok, Err}
use Rattle.line_devices.specs.declared.stamp_tallies.LineKind.{LineKind}
use Rattle.line_devices.specs.declared.stamp_tallies.LineKind.TheVariants.{Stamped, Bare, Continued, Empty, Long}
use Rattle.log_forms.specs.Choices.{is_read_by_any}
use Rattle.stamps.specs.Choosing.{chosen_by_two, chosen_with}
use Rattle.stamps.specs.Zoned.{with_zone}
use Rattle.stamps.specs.declared.changes.Anew.{Anew}
use Rattle.stamps.specs.declared.changes.Change.{Change}
use Rattle.stamps.specs.declared.changes.Choice.{Choice}
use Rattle.stamps.specs.declared.readers.Reader.{Reader}
use Rattle.stamps.specs.declared.reading.ReadingMisuse.{ReadingMisuse}

-- a number as one of 64 bits, which stops at the greatest
abbrev pub at_most : ℕ → ℕ
at_most count = min count (2 ^ 64 - 1)

-- how many lines in a row without a stamp there are before the next ones choose a form
abbrev pub row_length : ℕ
row_length = 15

-- the choice before the first line
abbrev pub first_choice : Choice
first_choice = record { own = None; number = None; row = 0; wait = row_length; front = []; changes = []; more = 0 }

-- the reader of the next line: the one that was chosen anew, or else the first one
abbrev pub reader_by : Option Anew → Option Reader → Reader → Reader
reader_by None own first = first
reader_by (Some anew) None first = first
reader_by (Some anew) (Some own) first = own

-- the number of the reader
abbrev pub number_or : Option ℕ → ℕ → ℕ
number_or (Some number) first = number
number_or None first = first

abbrev pub number_now : Anew → Choice → ℕ
number_now anew choice = number_or choice.number anew.number

-- the choice with a change more, of which the first eight are kept
abbrev pub with_change : Choice → Change → Choice
with_change choice change =
    if nat_lt (length choice.changes) 8 then record choice { changes = choice.changes ++ change ∷ [] }
    else record choice { more = at_most (choice.more + 1) }

-- the choice that waits for twice as many lines
abbrev pub with_longer_wait : Choice → Choice
with_longer_wait choice = record choice { wait = at_most (choice.wait * 2) }

-- the choice with a reader of a number, by the zone if one is given, after a line of a number
abbrev pub anew_with : Anew → Choice → ℕ → ℕ → Result Reader ReadingMisuse → Choice
anew_with anew choice number to (Ok reader) =
    with_change (record choice { own = Some (with_zone anew.zone reader); number = Some to; row = 0; wait = row_length })
    (record { line = number; from = number_now anew choice; to = to; lacks = None })
anew_with anew choice number to (Err misuse) =
    with_change (with_longer_wait choice) (record { line = number; from = number_now anew choice; to = to; lacks = Some misuse })

-- the choice with another reader, unless it lacks something. One that finds the reader of now again waits longer
abbrev pub after_choice : Anew → Choice → ℕ → ℕ → Choice
after_choice anew choice number to =
    if to == number_now anew choice then with_longer_wait choice
    else anew_with anew choice number to (chosen_with to anew.offset anew.year)

-- the choice waits longer once 16 lines have chosen no reader
abbrev pub unless_over : Choice → Choice
unless_over choice = if nat_le (at_most (choice.wait + row_length)) choice.row then with_longer_wait choice else choice

-- the choice after a line that chooses a reader with the one before, if they do
abbrev pub tried_with : Anew → Choice → ℕ → List ℕ → Option ℕ → Choice
tried_with anew choice number front (Some to) = after_choice anew choice number to
tried_with anew choice number front None = unless_over (record choice { front = front })

-- the choice after the beginning of a line without a stamp: it and the last one that a reader reads may choose a reader
abbrev pub tried : Anew → Choice → ℕ → List ℕ → Choice
tried anew choice number front =
    if is_read_by_any front then tried_with anew choice number front (chosen_by_two choice.front front) else unless_over choice

-- a row of lines with one more: the first one of a row forgets those of the row before
abbrev pub with_one_more : Choice → Choice
with_one_more choice = record choice { row = at_most (choice.row + 1); front = if choice.row == 0 then [] else choice.front }

-- the choice after a line with text and without a stamp, which is in the row
abbrev pub in_row : Option Anew → Choice → ℕ → List ℕ → Choice
in_row None choice number line = choice
in_row (Some anew) choice number line =
    if nat_le choice.wait choice.row then tried anew choice number (take 1024 line) else choice

-- the choice after a line of a number and a kind
abbrev pub choice_after : Option Anew → Choice → ℕ → LineKind → List ℕ → Choice
choice_after anew choice number Stamped line = record choice { row = 0 }
choice_after anew choice number Bare line = in_row anew (with_one_more choice) number line
choice_after anew choice number Long line = in_row anew (with_one_more choice) number line
choice_after anew choice number Continued line = choice
choice_after anew choice number Empty line = choice
