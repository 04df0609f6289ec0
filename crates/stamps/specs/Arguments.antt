-- The request of the words of the command line, or their misuse.
use Rattle.std.specs.Prelude.{ℕ, ℤ, pos, ◌*ℤ◌, nat_eq, nat_lt, Option, Some, None, ◌==◌, Bool, true, false, not, List, [], ◌∷◌, ◌++◌, codes, drop, length}
use Rattle.std.specs.Prelude.{if◌then◌else◌, Result, Ok, Err}
use Rattle.std.specs.Char.{is_ascii_digit}
use Rattle.std.specs.List.{list_any, starts_with, take_while}
use Rattle.std.specs.Result.{result_map_both}
use Rattle.std.specs.Str.{bytes_eq}
use Rattle.calendar_values.specs.Clock.{nanos_per_second}
use Rattle.offset_times.specs.Local.{instant_of}
use Rattle.rfc3339.specs.Front.{offset_reading_of}
use Rattle.rfc3339.specs.Reading.{reading_as}
use Rattle.rfc3339.specs.declared.refusal.TextRefusal.{TextRefusal}
use Rattle.rfc3339.specs.declared.refusal.TextRefusal.TheVariants.{Syntax, OutOfRange}
use Rattle.stamps.specs.Durations.{duration_of}
use Rattle.stamps.specs.declared.arguments.Misuse.{Misuse}
use Rattle.stamps.specs.declared.arguments.Misuse.TheVariants.{NoWord, UnknownWord, NoOffset, Offset, NoInstant, Instant}
use Rattle.stamps.specs.declared.arguments.Misuse.TheVariants.{TooFine, Back, NoUnit, Unit, NoDuration, Duration, Extra}
use Rattle.stamps.specs.declared.arguments.Request.{Request}
use Rattle.stamps.specs.declared.arguments.Request.TheVariants.{Help, Version, Work, Cut, Merge, Count}
use Rattle.stamps.specs.declared.bounds.Bound.{Bound}
use Rattle.stamps.specs.declared.bounds.Bound.TheVariants.{Exact, Local, BeforeNow, BeforeLast}
use Rattle.stamps.specs.declared.bounds.Cut as cuts
use Rattle.stamps.specs.declared.bounds.Cut.TheVariants.{Since, Until, Between}
use Rattle.stamps.specs.declared.counts.Clock.{Clock}
use Rattle.stamps.specs.declared.counts.Unit as units
use Rattle.stamps.specs.declared.counts.Unit.TheVariants.{Minute, Hour, Day}
use Rattle.stamps.specs.declared.task.Style.{Style}
use Rattle.stamps.specs.declared.task.Style.TheVariants.{Utc, At, Unix}
use Rattle.stamps.specs.declared.task.Action.{Action}
use Rattle.stamps.specs.declared.task.Action.TheVariants.{Write, Check, CheckAll, Gaps}

-- whether `--strict` follows, and no other word
abbrev pub strictness : List (List ℕ) → Result Bool Misuse
strictness [] = Ok false
strictness (flag ∷ []) = if bytes_eq flag (codes "--strict") then Ok true else Err Extra
strictness (flag ∷ word ∷ words) = Err Extra

-- the task that writes stamps in a style, or the misuse
abbrev pub write_task : Style → List (List ℕ) → Result Action Misuse
write_task style words = result_map_both (Write style) (λ misuse. misuse) (strictness words)

-- the task that writes stamps at an offset, or the misuse if the offset is invalid
abbrev pub at_offset_read : Result ℤ TextRefusal → List (List ℕ) → Result Action Misuse
at_offset_read (Ok offset) words = write_task (At offset) words
at_offset_read (Err refusal) words = Err (Offset refusal)

-- the task of `at OFFSET`
abbrev pub at_offset : List (List ℕ) → Result Action Misuse
at_offset [] = Err NoOffset
at_offset (text ∷ words) = at_offset_read (offset_reading_of text) words

-- whether a date-time has a fraction of which a digit past the ninth is not 0: the digits of a fraction begin at byte 20
unfoldable pub is_finer : List ℕ → Bool
is_finer text = list_any (λ digit. not (digit == 48)) (drop 9 (take_while is_ascii_digit (drop 20 text)))

-- the limit of this number of seconds
abbrev pub limit_of : ℕ → ℤ
limit_of seconds = pos seconds *ℤ pos nanos_per_second

-- the duration by which a bound counts back, or the misuse
abbrev pub back_read : Option ℕ → Result ℤ Misuse
back_read (Some seconds) = Ok (limit_of seconds)
back_read None = Err Back

abbrev pub back_asked : List ℕ → Result ℤ Misuse
back_asked text = back_read (duration_of text)

-- what a text of so many bytes lacks to be a date-time in UTC: a date the start of its day, and a time of day perhaps its seconds
abbrev pub lacking_of : ℕ → List ℕ
lacking_of count = if count == 10 then codes "T00:00:00Z" else (if count == 16 then codes ":00Z" else codes "Z")

-- the date-time in UTC of a date or of a date-time without an offset
abbrev pub local_text : List ℕ → List ℕ
local_text text = text ++ lacking_of (length text)

abbrev pub local_read : Result ℤ TextRefusal → Result Bound Misuse
local_read (Ok wall) = Ok (Local wall)
local_read (Err refusal) = Err (Instant refusal)

-- the bound of a date, or of a date-time without an offset that has at most nine digits of a fraction
abbrev pub local_bound : List ℕ → Result Bound Misuse
local_bound text = if nat_lt 29 (length text) then Err (Instant Syntax) else local_read (reading_as instant_of (local_text text))

-- the bound of a word that is no date-time with an offset: a duration back, or a date or a date-time without an offset
unfoldable pub other_bound : List ℕ → Result Bound Misuse
other_bound text =
    if starts_with nat_eq text (codes "last-") then result_map_both BeforeLast (λ misuse. misuse) (back_asked (drop 5 text))
    else (if starts_with nat_eq text (codes "-") then result_map_both BeforeNow (λ misuse. misuse) (back_asked (drop 1 text))
    else local_bound text)

-- the bound of a word by its reading as a date-time with an offset, which is not finer than a nanosecond
abbrev pub bound_read : Bool → Result ℤ TextRefusal → List ℕ → Result Bound Misuse
bound_read is_finer (Ok instant) text = if is_finer then Err TooFine else Ok (Exact instant)
bound_read is_finer (Err Syntax) text = other_bound text
bound_read is_finer (Err (OutOfRange component)) text = Err (Instant (OutOfRange component))

-- the bound of a word, or the misuse
abbrev pub bound_asked : List ℕ → Result Bound Misuse
bound_asked text = bound_read (is_finer text) (reading_as instant_of text) text

-- a bound that no word follows
abbrev pub only_bound : Bound → List (List ℕ) → Result Bound Misuse
only_bound bound [] = Ok bound
only_bound bound (word ∷ words) = Err Extra

abbrev pub only_read : Result Bound Misuse → List (List ℕ) → Result Bound Misuse
only_read (Ok bound) words = only_bound bound words
only_read (Err misuse) words = Err misuse

-- the last bound of a cut, or the misuse
abbrev pub last_bound : List (List ℕ) → Result Bound Misuse
last_bound [] = Err NoInstant
last_bound (text ∷ words) = only_read (bound_asked text) words

-- the cut between a bound and that of the words, or the misuse
abbrev pub between_from : Bound → List (List ℕ) → Result cuts.Cut Misuse
between_from from words = result_map_both (Between from) (λ misuse. misuse) (last_bound words)

abbrev pub between_read : Result Bound Misuse → List (List ℕ) → Result cuts.Cut Misuse
between_read (Ok from) words = between_from from words
between_read (Err misuse) words = Err misuse

-- the cut of `between`, or the misuse
abbrev pub between_cut : List (List ℕ) → Result cuts.Cut Misuse
between_cut [] = Err NoInstant
between_cut (text ∷ words) = between_read (bound_asked text) words

-- the cut since a bound, up to that of the words if there are any, or the misuse
abbrev pub since_rest : Bound → List (List ℕ) → Result cuts.Cut Misuse
since_rest from [] = Ok (Since from)
since_rest from (word ∷ words) = if bytes_eq word (codes "--until") then between_from from words else Err Extra

abbrev pub since_read : Result Bound Misuse → List (List ℕ) → Result cuts.Cut Misuse
since_read (Ok from) words = since_rest from words
since_read (Err misuse) words = Err misuse

-- the cut of `since`, or the misuse
abbrev pub since_cut : List (List ℕ) → Result cuts.Cut Misuse
since_cut [] = Err NoInstant
since_cut (text ∷ words) = since_read (bound_asked text) words

-- whether `--all` is the first word
abbrev pub starts_all : List (List ℕ) → Bool
starts_all [] = false
starts_all (flag ∷ words) = bytes_eq flag (codes "--all")

-- the task of `check [--all]`
abbrev pub check_task : List (List ℕ) → Result Action Misuse
check_task words =
    if starts_all words then result_map_both CheckAll (λ misuse. misuse) (strictness (drop 1 words))
    else result_map_both Check (λ misuse. misuse) (strictness words)

-- the task of `gaps`, or the misuse if the duration is invalid
abbrev pub gaps_read : Option ℕ → List (List ℕ) → Result Action Misuse
gaps_read (Some seconds) words = result_map_both (Gaps (limit_of seconds)) (λ misuse. misuse) (strictness words)
gaps_read None words = Err Duration

-- the task of `gaps DURATION`
abbrev pub gaps_task : List (List ℕ) → Result Action Misuse
gaps_task [] = Err NoDuration
gaps_task (text ∷ words) = gaps_read (duration_of text) words

-- a cut by its first word and the rest, or the misuse
unfoldable pub cut_asked : List ℕ → List (List ℕ) → Result cuts.Cut Misuse
cut_asked word words =
    if bytes_eq word (codes "since") then since_cut words
    else (if bytes_eq word (codes "until") then result_map_both Until (λ misuse. misuse) (last_bound words)
    else (if bytes_eq word (codes "between") then between_cut words
    else Err UnknownWord))

-- the request for a task, or the misuse
abbrev pub work_request : Result Action Misuse → Result Request Misuse
work_request task = result_map_both Work (λ misuse. misuse) task

-- the request for a task or a cut, by the first word and the rest, or the misuse
unfoldable pub task_asked : List ℕ → List (List ℕ) → Result Request Misuse
task_asked word words =
    if bytes_eq word (codes "utc") then work_request (write_task Utc words)
    else (if bytes_eq word (codes "unix") then work_request (write_task Unix words)
    else (if bytes_eq word (codes "at") then work_request (at_offset words)
    else (if bytes_eq word (codes "check") then work_request (check_task words)
    else (if bytes_eq word (codes "gaps") then work_request (gaps_task words)
    else result_map_both Cut (λ misuse. misuse) (cut_asked word words)))))

-- the unit that a word names
abbrev pub unit_of : List ℕ → Option units.Unit
unit_of word =
    if bytes_eq word (codes "minute") then Some Minute
    else (if bytes_eq word (codes "hour") then Some Hour
    else (if bytes_eq word (codes "day") then Some Day else None))

-- the clock of a unit at an offset
abbrev pub clock : units.Unit → ℤ → Clock
clock unit offset = record { unit = unit; offset = offset }

-- a count by a clock: with `--all` each unit without lines has a row
abbrev pub count_by : units.Unit → ℤ → List (List ℕ) → Result Request Misuse
count_by unit offset words =
    if starts_all words then result_map_both (Count (clock unit offset) true) (λ misuse. misuse) (strictness (drop 1 words))
    else result_map_both (Count (clock unit offset) false) (λ misuse. misuse) (strictness words)

-- a count at an offset, or the misuse if the offset is invalid
abbrev pub count_at_read : units.Unit → Result ℤ TextRefusal → List (List ℕ) → Result Request Misuse
count_at_read unit (Ok offset) words = count_by unit offset words
count_at_read unit (Err refusal) words = Err (Offset refusal)

-- a count with the offset after `at`
abbrev pub count_at : units.Unit → List (List ℕ) → Result Request Misuse
count_at unit [] = Err NoOffset
count_at unit (text ∷ words) = count_at_read unit (offset_reading_of text) words

-- whether `at` is the first word
abbrev pub starts_at : List (List ℕ) → Bool
starts_at [] = false
starts_at (word ∷ words) = bytes_eq word (codes "at")

-- a count in a unit, with an offset or in UTC
abbrev pub count_in : units.Unit → List (List ℕ) → Result Request Misuse
count_in unit words = if starts_at words then count_at unit (drop 1 words) else count_by unit (pos 0) words

-- a count, or the misuse if the unit is unknown
abbrev pub count_read : Option units.Unit → List (List ℕ) → Result Request Misuse
count_read (Some unit) words = count_in unit words
count_read None words = Err Unit

-- the request of `count UNIT [at OFFSET] [--all]`
abbrev pub count_request : List (List ℕ) → Result Request Misuse
count_request [] = Err NoUnit
count_request (text ∷ words) = count_read (unit_of text) words

-- a request that no word follows
abbrev pub asked_alone : Request → List (List ℕ) → Result Request Misuse
asked_alone request [] = Ok request
asked_alone request (word ∷ words) = Err Extra

-- the request of the words after the name of the program, or the misuse
unfoldable pub request_of : List (List ℕ) → Result Request Misuse
request_of [] = Err NoWord
request_of (word ∷ words) =
    if bytes_eq word (codes "--help") then asked_alone Help words
    else (if bytes_eq word (codes "--version") then asked_alone Version words
    else (if bytes_eq word (codes "merge") then result_map_both Merge (λ misuse. misuse) (strictness words)
    else (if bytes_eq word (codes "count") then count_request words
    else task_asked word words)))

-- the message of a misuse: the fault and the remedy
abbrev pub misuse_text : Misuse → List ℕ
misuse_text NoWord = codes "no word is given: begin with one of those of the usage"
misuse_text UnknownWord = codes "the word '' is unknown"
misuse_text NoOffset = codes "at has no offset: add one, as +05:30 or Z"
misuse_text (Offset Syntax) = codes "the offset '' has another form: write it as +05:30 or Z"
misuse_text (Offset (OutOfRange component)) = codes "the offset '' is out of range: write one from -23:59 to +23:59"
misuse_text NoInstant = codes "the bound is missing: add a date-time, as 2024-02-29T12:00:00Z"
misuse_text (Instant Syntax) = codes "the bound '' is no instant: write a date-time, as 2024-02-29T12:00:00Z, a date, -1h or last-15m"
misuse_text Back = codes "the bound '' has another duration: write it as -1h, back from now, or last-15m, from the last stamp"
misuse_text (Instant (OutOfRange component)) = codes "the bound '' has a part that is out of range: write a date-time of the calendar"
misuse_text TooFine = codes "the bound '' has more than nine digits of a fraction: write nine at most, or 0 for each digit past the ninth"
misuse_text NoUnit = codes "count has no unit: add minute, hour or day"
misuse_text Unit = codes "the unit '' is unknown: write minute, hour or day"
misuse_text NoDuration = codes "gaps has no duration: add one, as 90s, 5m or 1h30m"
misuse_text Duration = codes "the duration '' has another form: write whole numbers with d, h, m and s, as 1h30m"
misuse_text Extra = codes "the word '' is unknown or too many"
