-- Laws of all inputs, for the owner of a log. A function of `src/laws.rt` proves each of them.
use Rattle.std.specs.Prelude.{◌≡◌, ◌≢◌, ◌↔◌, ℕ, ◌+◌, ◌-◌, ◌≤◌, nat_lt, Bool, true, false, not, ◌&&◌, List, []}
use Rattle.std.specs.Prelude.{◌∷◌, ◌++◌, drop, length, map, nat_eq, slice_get, take, if◌then◌else◌, ℤ, ◌-ℤ◌, int_lt, Option, Some, None}
use Rattle.std.specs.Prelude.{Result, Ok, Err, IsOk, IsTrue}
use Rattle.std.specs.Cmp.Lexicographic.{slice_cmp}
use Rattle.std.specs.List.{concat, list_all, list_any, starts_with}
use Rattle.std.specs.Ordering.{int_cmp, nat_cmp}
use Rattle.std.specs.Result.{is_ok}
use Rattle.std.specs.declared.cmp.Ordering.TheVariants.{Less}
use Rattle.line_devices.specs.Lines.{lines_of, pieces_of, unless_empty, whole_lines_of}
use Rattle.offset_times.specs.Local.{instant_of}
use Rattle.rfc3339.specs.Form.{IsDateTime}
use Rattle.rfc3339.specs.Meaning.{AreInRange, meaning, value_of}
use Rattle.rfc3339.specs.Texts.{fixed_text}
use Rattle.rfc3339.specs.UnixTexts.{unix_text}
use Rattle.rfc3339.specs.declared.parts.Parts.{Parts}
use Rattle.rfc3339.specs.declared.refusal.Component.{Component}
use Rattle.rfc3339.specs.declared.refusal.TextRefusal.TheVariants.{Syntax, OutOfRange}
use Rattle.line_devices.specs.StampTallies.{is_bare}
use Rattle.line_devices.specs.declared.stamp_tallies.LineKind.{LineKind}
use Rattle.line_devices.specs.declared.stamp_tallies.LineKind.TheVariants.{Stamped, Bare, Continued, Empty, Long}
use Rattle.line_counts.specs.Counting.{Counting}
use Rattle.line_counts.specs.Counts.{count_input}
use Rattle.line_counts.specs.Stamps.{kinds_after}
use Rattle.line_merges.specs.Instants.{LogReading}
use Rattle.line_merges.specs.Lines.{log_lines}
use Rattle.stamps.specs.Buckets.{counting}
use Rattle.stamps.specs.Changes.{choice_after, first_choice, with_one_more}
use Rattle.stamps.specs.Choosing.{chosen_with, reads}
use Rattle.stamps.specs.Tallies.{kinds_of}
use Rattle.stamps.specs.declared.changes.Anew.{Anew}
use Rattle.stamps.specs.declared.changes.Choice.{Choice}
use Rattle.stamps.specs.declared.counts.ClockBuckets.{ClockBuckets}
use Rattle.stamps.specs.declared.task.Task.{Task}
use Rattle.stamps.specs.Decisions.{is_earlier, last_of, later_of, one_more, reading, rewritten}
use Rattle.log_forms.specs.Ends.{opens_bracket, runs_on}
use Rattle.log_forms.specs.declared.places.Place.TheVariants.{Json}
use Rattle.log_forms.specs.declared.stamps.Stamp as forms
use Rattle.stamps.specs.FrontLines.{lead_of, value_lead, with_lead}
use Rattle.stamps.specs.LogReadings.{reading_by}
use Rattle.stamps.specs.LineStamps.{byte_order_mark, longest_stamp, stamp_of}
use Rattle.stamps.specs.Notes.{note_text}
use Rattle.stamps.specs.Readers.{IsOfOneLine, line_stamp, value_kind}
use Rattle.stamps.specs.Runs.{input_run, output_of}
use Rattle.stamps.specs.Runs as runs
use Rattle.stamps.specs.StampTexts.{in_quotes, is_date}
use Rattle.stamps.specs.Styles.{text_in}
use Rattle.stamps.specs.Zoned.{with_zone}
use Rattle.stamps.specs.declared.decide.Stamp.{Stamp}
use Rattle.stamps.specs.declared.fronted.Lead.{Lead}
use Rattle.stamps.specs.declared.notes.Note.TheVariants.{Gap}
use Rattle.stamps.specs.declared.readers.LineRefusal.{LineRefusal}
use Rattle.stamps.specs.declared.readers.LineRefusal.TheVariants as line
use Rattle.stamps.specs.declared.readers.LineStamp.{LineStamp}
use Rattle.stamps.specs.declared.readers.Reader.{Reader}
use Rattle.stamps.specs.declared.readers.Reader.TheVariants.{Plain}
use Rattle.stamps.specs.declared.readers.ValueKind.TheVariants.{Quoted}
use Rattle.stamps.specs.declared.reading.ReadingMisuse.{ReadingMisuse}
use Rattle.stamps.specs.declared.reading.ReadingMisuse.TheVariants.{LacksBoth, LacksOffset}
use Rattle.stamps.specs.declared.task.Style.{Style}
use Rattle.stamps.specs.declared.task.Style.TheVariants.{Unix, Utc}
use Rattle.stamps.specs.declared.task.Action.{Action}
use Rattle.stamps.specs.declared.task.Action.TheVariants.{Write, Check, Gaps, Since, Until, Between}

-- ---- stamps

-- a stamp at the start of a text: an RFC 3339 date-time in range, of at most 65,500 bytes, that ends there
pub record HasStamp (text : List ℕ) (stamp : Stamp) : Type 0 where
  pub spelled : List ℕ
  pub rest : List ℕ
  pub parts : Parts
  pub split : text ≡ spelled ++ rest
  pub form : IsDateTime spelled parts
  pub ranges : AreInRange parts
  pub short : length spelled ≤ longest_stamp
  pub ends : runs_on false rest ≡ false
  pub instant : stamp.instant ≡ instant_of (value_of parts)
  pub count : stamp.length ≡ length spelled
  pub zone : stamp.is_zoned ≡ opens_bracket rest

-- a text has the stamp that `stamp_of` returns, and no other. A date-time that continues is no stamp, and a stamp with a part
-- out of its range returns the error of that part
pub record StampsAreDateTimes : Type 0 where
  pub sound : (text : List ℕ) (stamp : Stamp) → stamp_of text ≡ Ok stamp → HasStamp text stamp
  pub complete : (text : List ℕ) (stamp : Stamp) → HasStamp text stamp → stamp_of text ≡ Ok stamp
  pub continued : (spelled rest : List ℕ) (p : Parts) → IsDateTime spelled p → length spelled ≤ longest_stamp
      → runs_on false rest ≡ true → stamp_of (spelled ++ rest) ≡ Err Syntax
  pub refused : (spelled rest : List ℕ) (p : Parts) (component : Component) → IsDateTime spelled p → length spelled ≤ longest_stamp
      → runs_on false rest ≡ false → meaning p ≡ Err (OutOfRange component) → stamp_of (spelled ++ rest) ≡ Err (OutOfRange component)

-- ---- the lines of an input

-- a line, and the line feed that ends it
abbrev pub fed : List ℕ → List ℕ
fed line = line ++ 10 ∷ []

-- the lines of an input, each with the line feed that ends it, which the last one may lack
abbrev pub line_texts : List ℕ → List (List ℕ)
line_texts input = map fed (whole_lines_of input) ++ unless_empty (runs.last_of (pieces_of input))

-- the stamps of lines, each by the last instant before it, after the byte order mark of the first line of an input
unfoldable pub line_stamps : Reader → Option ℤ → Bool → List (List ℕ) → List (Result LineStamp LineRefusal)
line_stamps reader last is_first [] = []
line_stamps reader last is_first (line ∷ lines) =
    let stamp = line_stamp reader last is_first line in stamp ∷ line_stamps reader (last_of last stamp) false lines

-- the stamps of the lines of an input
abbrev pub stamps_of : Reader → List ℕ → List (Result LineStamp LineRefusal)
stamps_of reader input = line_stamps reader None true (lines_of input)

-- ---- `since` and `until`

-- for each line the instant that it belongs to: that of the last stamp up to it, if there is one
unfoldable pub instants_up_to : Option ℤ → List (Result LineStamp LineRefusal) → List (Option ℤ)
instants_up_to last [] = []
instants_up_to last (stamp ∷ stamps) = last_of last stamp ∷ instants_up_to (last_of last stamp) stamps

-- whether there is an instant, and it is not before the bound
abbrev pub is_since : ℤ → Option ℤ → Bool
is_since bound (Some i) = not (int_lt i bound)
is_since bound None = false

-- for each line of an input, whether its instant is not before the bound
abbrev pub lines_since : Reader → ℤ → List ℕ → List Bool
lines_since reader bound input = map (is_since bound) (instants_up_to None (stamps_of reader input))

-- the texts that are marked
unfoldable pub marked_texts : List Bool → List (List ℕ) → List ℕ
marked_texts [] texts = []
marked_texts (mark ∷ marks) [] = []
marked_texts (true ∷ marks) (text ∷ texts) = text ++ marked_texts marks texts
marked_texts (false ∷ marks) (text ∷ texts) = marked_texts marks texts

-- `since` writes the lines whose instant is not before the bound, and `until` all others: whole, in their order, and to the end
pub record SinceAndUntilCutInTwo : Type 0 where
  pub since : (reader : Reader) (bound : ℤ) (input : List ℕ)
      → (input_run (reading reader (Since bound)) input).text ≡ marked_texts (lines_since reader bound input) (line_texts input)
  pub until : (reader : Reader) (bound : ℤ) (input : List ℕ)
      → (input_run (reading reader (Until bound)) input).text ≡ marked_texts (map not (lines_since reader bound input)) (line_texts input)
  pub whole : (input : List ℕ) → concat (line_texts input) ≡ input
  pub since_ends : (reader : Reader) (bound : ℤ) (input : List ℕ) → IsOk (input_run (reading reader (Since bound)) input).end
  pub until_ends : (reader : Reader) (bound : ℤ) (input : List ℕ) → IsOk (input_run (reading reader (Until bound)) input).end

-- ---- `between`

-- the marks that two lists have at the same places
unfoldable pub both_marks : List Bool → List Bool → List Bool
both_marks [] others = []
both_marks (mark ∷ marks) [] = []
both_marks (mark ∷ marks) (other ∷ others) = (mark && other) ∷ both_marks marks others

-- the text that a task writes for an input
abbrev pub cut_by : Reader → Action → List ℕ → List ℕ
cut_by reader action input = (input_run (reading reader action) input).text

-- no line but the first begins with a byte order mark
abbrev pub HasNoOtherMark : List ℕ → Type 0
HasNoOtherMark input = list_any (λ line. starts_with nat_eq line byte_order_mark) (drop 1 (lines_of input)) ≡ false

-- `between` writes exactly the lines that both cuts write, `since` by the first instant and `until` by the second one, and to the end.
-- That is what one cut writes of what the other one writes, if each line is read by itself and no later line begins with a mark
pub record BetweenIsBothCuts : Type 0 where
  pub text : (reader : Reader) (from to : ℤ) (input : List ℕ)
      → (input_run (reading reader (Between from to)) input).text
      ≡ marked_texts (both_marks (lines_since reader from input) (map not (lines_since reader to input))) (line_texts input)
  pub ends : (reader : Reader) (from to : ℤ) (input : List ℕ) → IsOk (input_run (reading reader (Between from to)) input).end
  pub since_of_until : (reader : Reader) (from to : ℤ) (input : List ℕ) → IsOfOneLine reader → HasNoOtherMark input
      → cut_by reader (Since from) (cut_by reader (Until to) input) ≡ cut_by reader (Between from to) input
  pub until_of_since : (reader : Reader) (from to : ℤ) (input : List ℕ) → IsOfOneLine reader → HasNoOtherMark input
      → cut_by reader (Until to) (cut_by reader (Since from) input) ≡ cut_by reader (Between from to) input

-- ---- `utc`, `at` and `unix`

-- the text that is written for a line, whatever the other lines are
abbrev pub line_written : Reader → Style → Bool → List ℕ → List ℕ
line_written reader style is_first line = output_of (rewritten style false 1 (line_stamp reader None is_first line)) line

-- the text that is written for the bytes after the last line feed, if there are any
abbrev pub last_written : Reader → Style → Bool → List ℕ → List ℕ
last_written reader style is_first [] = []
last_written reader style is_first (byte ∷ line) = line_written reader style is_first (byte ∷ line)

-- the text that is written for lines, and for the bytes after them
unfoldable pub lines_written : Reader → Style → Bool → List (List ℕ) → List ℕ → List ℕ
lines_written reader style is_first [] last = last_written reader style is_first last
lines_written reader style is_first (line ∷ lines) last =
    fed (line_written reader style is_first line) ++ lines_written reader style false lines last

-- the text that a task writes for an input if it is not strict
abbrev pub text_written : Reader → Style → List ℕ → List ℕ
text_written reader style input = (input_run (reading reader (Write style false)) input).text

-- each line is written by itself if no year is assumed, so an input can be cut at a line feed, and a byte order mark stays first
pub record LinesAreWrittenAlone : Type 0 where
  pub text : (reader : Reader) (style : Style) (input : List ℕ) → IsOfOneLine reader
      → text_written reader style input ≡ lines_written reader style true (whole_lines_of input) (runs.last_of (pieces_of input))
  pub cut : (reader : Reader) (style : Style) (first second : List ℕ) → IsOfOneLine reader → starts_with nat_eq second byte_order_mark ≡ false
      → text_written reader style (first ++ 10 ∷ second) ≡ text_written reader style (fed first) ++ text_written reader style second
  pub marked : (reader : Reader) (style : Style) (line : List ℕ)
      → line_written reader style true (byte_order_mark ++ line) ≡ byte_order_mark ++ line_written reader style false line
  pub ends : (reader : Reader) (style : Style) (input : List ℕ) → IsOk (input_run (reading reader (Write style false)) input).end

-- a stamp of 30 bytes at the same instant
abbrev pub in_utc : Stamp → Stamp
in_utc stamp = record { instant = stamp.instant; length = 30; is_zoned = stamp.is_zoned }

-- written in UTC, a line whose date-time of RFC 3339 has a text there keeps its instant and the rest of the line. A second write changes nothing
pub record UtcTwiceIsOnce : Type 0 where
  pub same_instant : (line : List ℕ) (stamp : Stamp) (text : List ℕ) → stamp_of line ≡ Ok stamp → text_in Utc stamp.instant ≡ Some text
      → stamp_of (line_written Plain Utc false line) ≡ Ok (in_utc stamp)
  pub rest_stays : (line : List ℕ) (stamp : Stamp) (text : List ℕ) → stamp_of line ≡ Ok stamp → text_in Utc stamp.instant ≡ Some text
      → line_written Plain Utc false line ≡ fixed_text stamp.instant ++ drop stamp.length line
  pub twice : (line : List ℕ) → line_written Plain Utc false (line_written Plain Utc false line) ≡ line_written Plain Utc false line

-- lines whose date-times of RFC 3339 have a text in UTC are, written in UTC, in the same order by bytes as their instants
abbrev pub WrittenLinesKeepTheOrder : Type 0
WrittenLinesKeepTheOrder =
    (a b : List ℕ) (first second : Stamp) (s t : List ℕ) → stamp_of a ≡ Ok first → stamp_of b ≡ Ok second
    → text_in Utc first.instant ≡ Some s → text_in Utc second.instant ≡ Some t → int_cmp first.instant second.instant ≡ Less
    → slice_cmp nat_cmp (line_written Plain Utc false a) (line_written Plain Utc false b) ≡ Less

-- ---- `merge --to utc`

-- a line with a new front has a stamp of the same instant
abbrev pub IsReadAgain : List ℕ → LineStamp → Lead → Type 0
IsReadAgain line stamp lead = (read : Stamp) × (stamp_of (lead.text ++ drop lead.count line) ≡ Ok read) × (read.instant ≡ stamp.instant)

-- the new front of a line in UTC is read again as the instant of the stamp that the line has in its form
abbrev pub MergedLinesAreRead : Type 0
MergedLinesAreRead =
    (mark : ℕ) (line : List ℕ) (stamp : LineStamp) (lead : Lead) → lead_of Utc mark line stamp ≡ Some lead → IsReadAgain line stamp lead

-- ---- `merge --to unix`

-- a line with a new front in UTC is written by the word `unix` with the Unix seconds of the same instant, and the rest stays
abbrev pub IsWrittenInUnix : List ℕ → List ℕ → LineStamp → Type 0
IsWrittenInUnix front rest stamp =
    (read : Stamp) × (stamp_of (front ++ rest) ≡ Ok read)
    × (line_written Plain Unix false (front ++ rest) ≡ unix_text stamp.instant ++ drop read.length (front ++ rest))

-- so the merge in Unix seconds writes each stamp that the line has in its form
abbrev pub MergedLinesAreWrittenInUnix : Type 0
MergedLinesAreWrittenInUnix =
    (mark : ℕ) (line : List ℕ) (stamp : LineStamp) (lead : Lead) → lead_of Utc mark line stamp ≡ Some lead
    → IsWrittenInUnix lead.text (drop lead.count line) stamp

-- ---- `check`

-- the instants of the stamps that are valid
unfoldable pub instants : List (Result LineStamp LineRefusal) → List ℤ
instants [] = []
instants (Ok stamp ∷ stamps) = stamp.instant ∷ instants stamps
instants (Err refusal ∷ stamps) = instants stamps

-- whether a part of a stamp is out of its range, or missing
abbrev pub is_out_of_range : Result LineStamp LineRefusal → Bool
is_out_of_range (Ok stamp) = false
is_out_of_range (Err line.Absent) = false
is_out_of_range (Err (line.OutOfRange component)) = true
is_out_of_range (Err (line.Part refusal)) = true

-- whether no instant is earlier than the one before
unfoldable pub none_earlier : Option ℤ → List ℤ → Bool
none_earlier last [] = true
none_earlier last (i ∷ more) = not (is_earlier i last) && none_earlier (Some i) more

-- the instants of an input do not decrease
abbrev pub AreInOrder : Reader → List ℕ → Type 0
AreInOrder reader input = IsTrue (none_earlier None (instants (stamps_of reader input)))

-- whether a list is empty, or an element of it passes the test
abbrev pub is_empty_or_any : {A : Type 0} → (A → Bool) → List A → Bool
is_empty_or_any test [] = true
is_empty_or_any test (x ∷ xs) = list_any test (x ∷ xs)

-- `check` finds nothing exactly if no stamp is out of range, the instants never decrease, and there are no lines or one has a
-- stamp. `check --strict` finds nothing exactly if each line has a stamp, and the instants never decrease
pub record CheckTellsTheOrder : Type 0 where
  pub lenient : (reader : Reader) (input : List ℕ) → IsOk (input_run (reading reader (Check false)) input).end
      ↔ (IsTrue (list_all (λ stamp. not (is_out_of_range stamp)) (stamps_of reader input)) × AreInOrder reader input
      × IsTrue (is_empty_or_any is_ok (stamps_of reader input)))
  pub strict : (reader : Reader) (input : List ℕ) → IsOk (input_run (reading reader (Check true)) input).end
      ↔ (IsTrue (list_all is_ok (stamps_of reader input)) × AreInOrder reader input)

-- ---- `gaps`

-- whether an instant is later than each instant before it by more than the limit, and there is one
abbrev pub ends_silence : ℤ → List ℤ → ℤ → Bool
ends_silence limit [] i = false
ends_silence limit (j ∷ before) i = list_all (λ at. int_lt limit (i -ℤ at)) (j ∷ before)

-- the latest of some instants, the first of which is at hand
unfoldable pub latest : ℤ → List ℤ → ℤ
latest i [] = i
latest i (j ∷ more) = latest (later_of (Some i) j) more

-- the note on a line with a number and an instant, if that ends a silence: it names the latest instant before
abbrev pub silence_text : ℤ → List ℤ → ℕ → ℤ → List ℕ
silence_text limit [] number i = []
silence_text limit (j ∷ before) number i =
    if ends_silence limit (j ∷ before) i then note_text (Gap number (latest j before) i) else []

-- the notes on lines, by their stamps, behind so many lines of these instants
unfoldable pub silences_told : ℤ → List ℤ → ℕ → List (Result LineStamp LineRefusal) → List ℕ
silences_told limit before number [] = []
silences_told limit before number (Ok stamp ∷ stamps) =
    silence_text limit before (one_more number) stamp.instant
    ++ silences_told limit (before ++ stamp.instant ∷ []) (one_more number) stamps
silences_told limit before number (Err refusal ∷ stamps) = silences_told limit before (one_more number) stamps

-- `gaps` tells exactly the lines whose instant is later than each instant before it by more than the limit, and how long the silence was
-- since the latest of these
pub record GapsTellSilences : Type 0 where
  pub text : (reader : Reader) (limit : ℤ) (input : List ℕ)
      → (input_run (reading reader (Gaps limit false)) input).text ≡ silences_told limit [] 0 (stamps_of reader input)
  pub ends : (reader : Reader) (limit : ℤ) (input : List ℕ) → IsOk (input_run (reading reader (Gaps limit false)) input).end

-- ---- JSON

-- in place of a value of JSON a date is in quotes and Unix seconds are not, whether the value was a number or a text, whose quotes go with
-- it. A merge in one style writes the value as the word of that style does
pub record ValuesStayValues : Type 0 where
  pub date : (reader : Reader) (style : Style) (line : List ℕ) (stamp : LineStamp) (text : List ℕ) → line_stamp reader None false line ≡ Ok stamp
      → stamp.is_value ≡ true → is_date style ≡ true → text_in style stamp.instant ≡ Some text
      → line_written reader style false line ≡ take stamp.start line ++ (in_quotes text ++ drop (stamp.start + stamp.length) line)
  pub seconds : (reader : Reader) (line : List ℕ) (stamp : LineStamp) → line_stamp reader None false line ≡ Ok stamp → stamp.is_value ≡ true
      → line_written reader Unix false line ≡ take stamp.start line ++ (unix_text stamp.instant ++ drop (stamp.start + stamp.length) line)
  pub merged : (reader : Reader) (style : Style) (line : List ℕ) (stamp : LineStamp) (lead : Lead) → line_stamp reader None false line ≡ Ok stamp
      → value_lead style stamp ≡ Some lead → with_lead lead line ≡ line_written reader style false line
  pub quotes : (line : List ℕ) (stamp : forms.Stamp) → value_kind Json line stamp ≡ Quoted
      → (1 ≤ stamp.start) × (slice_get line (stamp.start - 1) ≡ Some 34) × (slice_get line (stamp.start + stamp.length) ≡ Some 34)

-- ---- a form that changes

-- whether fewer than 15 lines in each row have text and no stamp, after so many of them
unfoldable pub rows_are_short : ℕ → List LineKind → Bool
rows_are_short row [] = true
rows_are_short row (Stamped ∷ kinds) = rows_are_short 0 kinds
rows_are_short row (Bare ∷ kinds) = nat_lt (row + 1) 15 && rows_are_short (row + 1) kinds
rows_are_short row (Long ∷ kinds) = nat_lt (row + 1) 15 && rows_are_short (row + 1) kinds
rows_are_short row (Continued ∷ kinds) = rows_are_short row kinds
rows_are_short row (Empty ∷ kinds) = rows_are_short row kinds

-- the kinds of the lines of an input
abbrev pub kinds_in : Reader → List ℕ → List LineKind
kinds_in reader input = kinds_of (lines_of input) (stamps_of reader input)

-- how the lines of an input are counted in its first form alone
abbrev pub counting_in_one : ClockBuckets → Counting Choice
counting_in_one buckets = counting (record buckets { anew = None })

-- how the lines of a log of a merge are read in its first form alone
abbrev pub reading_in_one : Reader → Option Reader → LogReading Choice
reading_in_one = reading_by None

-- why a reader of this number reads the lines after a line: the line has no stamp, nor have at least 14 others since the last one with a
-- stamp, and the reader finds one in the beginnings of this line and of one of the others
pub record IsReason (choice : Choice) (kind : LineKind) (line : List ℕ) (to : ℕ) : Type 0 where
  pub bare : is_bare kind ≡ true
  pub row : choice.wait ≤ one_more choice.row
  pub before : reads to (with_one_more choice).front ≡ true
  pub here : reads to (take 1024 line) ≡ true

-- the lines behind a change are read as those of a log whose first lines choose that form: by the same offset, year and zone
abbrev pub IsReadAsAtFirst : Anew → ℕ → Option Reader → Type 0
IsReadAsAtFirst anew to own = (reader : Reader) × (chosen_with to anew.offset anew.year ≡ Ok reader) × (own ≡ Some (with_zone anew.zone reader))

-- whether `--offset` is in the remedy of a misuse
abbrev pub asks_for_offset : ReadingMisuse → Bool
asks_for_offset LacksOffset = true
asks_for_offset LacksBoth = true
asks_for_offset _ = false

-- an input is read in one form if fewer than 15 of its lines in each row have no stamp: by each word, so that a count has the same rows,
-- and a merge the same lines. Where another form reads on, there is a reason, and it reads as it would from the first line on. Where it
-- cannot, `--offset` is no remedy if an offset or a zone is given
pub record FormsChangeForAReason : Type 0 where
  pub stays : (task : Task) (input : List ℕ) → rows_are_short 0 (kinds_in task.reader input) ≡ true
      → input_run task input ≡ input_run (reading task.reader task.action) input
  pub count_stays : (buckets : ClockBuckets) (is_strict : Bool) (input : List ℕ)
      → rows_are_short 0 (kinds_after (counting_in_one buckets) first_choice 0 None (lines_of input)) ≡ true
      → count_input (counting buckets) is_strict input ≡ count_input (counting_in_one buckets) is_strict input
  pub merge_stays : (anew : Option Anew) (reader : Reader) (other : Option Reader) (log : List ℕ)
      → rows_are_short 0 (map (λ line. line.kind) (log_lines (reading_in_one reader other) log)) ≡ true
      → log_lines (reading_by anew reader other) log ≡ log_lines (reading_in_one reader other) log
  pub reason : (anew : Anew) (choice : Choice) (number to : ℕ) (kind : LineKind) (line : List ℕ)
      → (choice_after (Some anew) choice number kind line).number ≡ Some to → choice.number ≢ Some to → IsReason choice kind line to
  pub as_at_first : (anew : Anew) (choice : Choice) (number to : ℕ) (kind : LineKind) (line : List ℕ)
      → (choice_after (Some anew) choice number kind line).number ≡ Some to → choice.number ≢ Some to
      → IsReadAsAtFirst anew to (choice_after (Some anew) choice number kind line).own
  pub remedy : (number : ℕ) (offset : ℤ) (year : Option ℤ) (misuse : ReadingMisuse) → chosen_with number (Some offset) year ≡ Err misuse
      → asks_for_offset misuse ≡ false
