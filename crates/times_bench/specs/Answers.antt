-- The answers to lines.
use Rattle.std.specs.Prelude.{ℕ, Bool, false, List, [], ◌∷◌, ◌++◌, take, codes, decimal, flat_map, ℤ, Option, Some, None, Result, Ok, Err, is_ok}
use Rattle.std.specs.Fmt.{signed_decimal}
use Rattle.calendar_values.specs.Calendar.{ordinal_of, julian_day_of}
use Rattle.calendar_values.specs.Refusals.{Refusal}
use Rattle.calendar_values.specs.WallClock.{wall_day}
use Rattle.calendar_values.specs.Weekday.{weekday_name}
use Rattle.calendar_values.specs.Weeks.{weekday_of}
use Rattle.plain_times.specs.Replacements.{wall_nanosecond_outcome}
use Rattle.utc_times.specs.Texts.{utc_text}
use Rattle.utc_times.specs.UnixTime.{unix_instant}
use Rattle.offset_times.specs.Local.{wall_at}
use Rattle.stamp_times.specs.Counter.{replies, last_instant}
use Rattle.stamp_times.specs.Numbered.{weekday_numbered}
use Rattle.stamp_times.specs.Refusals.{timestamp_of_parts}
use Rattle.stamp_times.specs.Texts.{timestamp_text}
use Rattle.stamp_times.specs.Travel.{held_instant, stop_index, held_after}
use Rattle.stamp_times.specs.declared.runs.calls.Call.{Call}
use Rattle.stamp_times.specs.declared.chains.steps.Held.{Held}
use Rattle.stamp_times.specs.declared.chains.steps.Held.TheVariants as held
use Rattle.stamp_times.specs.declared.chains.steps.Step.{Step}
use Rattle.stamp_times.specs.declared.chains.steps.Step.TheVariants.{ToStamp, ToUtc, ToOffset}
use Rattle.times_bench.specs.ReplyTexts.{refused_text, reply_text, held_text}
use Rattle.times_bench.specs.Requests.{Request, Unix, Stamp, Run, Chain, request_of}

-- the day of the year, the day of the week and the Julian day of a day
unfoldable pub day_text : ℤ → List ℕ
day_text day =
    decimal (ordinal_of day) ++ codes " " ++ weekday_name (weekday_numbered (weekday_of day)) ++ codes " " ++ signed_decimal (julian_day_of day)

-- the text of an instant in UTC, and the text of its day
abbrev pub stamp_text : ℤ → List ℕ
stamp_text instant = utc_text instant ++ codes " " ++ day_text (wall_day instant)

-- an instant with its nanosecond replaced, or the error of one of the two
abbrev pub with_instant_nanosecond : Result ℤ Refusal → ℕ → Result ℤ Refusal
with_instant_nanosecond (Ok instant) nanosecond = (wall_nanosecond_outcome instant nanosecond).answer
with_instant_nanosecond (Err refusal) nanosecond = Err refusal

-- the text of an instant, or of the error: `refused` and the name of the part
abbrev pub text_or_refusal : (ℤ → List ℕ) → Result ℤ Refusal → List ℕ
text_or_refusal text (Ok instant) = text instant
text_or_refusal text (Err refusal) = refused_text refusal

-- the answer to `unix S`: the text of that second
unfoldable pub unix_answer : ℤ → List ℕ
unix_answer second = text_or_refusal utc_text (unix_instant second)

-- the answer to `stamp S N`: the text of that second with its nanosecond replaced, and the text of its day
unfoldable pub stamp_answer : ℤ → ℕ → List ℕ
stamp_answer second nanosecond = text_or_refusal stamp_text (with_instant_nanosecond (unix_instant second) nanosecond)

-- the replies to the calls of a run, each with `; ` after it, then `end ` and the last instant
unfoldable pub run_text : List Call → ℤ → List ℕ
run_text calls start =
    flat_map (λ reply. reply_text reply ++ codes "; ") (replies start calls) ++ codes "end " ++ timestamp_text (last_instant start calls)

-- the answer to `run S N CALL..`: the run from the instant of S and N
unfoldable pub run_answer : ℤ → ℕ → List Call → List ℕ
run_answer second nanosecond calls = text_or_refusal (run_text calls) (timestamp_of_parts second nanosecond)

-- the start of a chain: an instant as a timestamp or in UTC, or its wall clock in UTC taken as one at an offset
abbrev pub held_start : Step → ℤ → Held
held_start ToStamp i = held.Stamp i
held_start ToUtc i = held.Utc i
held_start (ToOffset o) i = held.Offset (wall_at i o)

-- the text of the value at the end, or of the index at which the chain stopped and of the value there
abbrev pub arrival_text : Held → List Step → Option ℕ → List ℕ
arrival_text start steps None = held_text (held_after start (held_instant start) steps)
arrival_text start steps (Some index) =
    codes "stopped " ++ decimal index ++ codes " " ++ held_text (held_after start (held_instant start) (take index steps))

-- the text of a chain of conversions
unfoldable pub chain_text : Step → List Step → ℤ → List ℕ
chain_text start steps i = let from = held_start start i in arrival_text from steps (stop_index (held_instant from) steps)

-- the answer to `chain S N START STEP..`: the chain from the instant of S and N
unfoldable pub chain_answer : ℤ → ℕ → Step → List Step → List ℕ
chain_answer second nanosecond start steps = text_or_refusal (chain_text start steps) (timestamp_of_parts second nanosecond)

-- the answer to the request of a line, or `bad line` if it has none
abbrev pub answer_to : Option Request → List ℕ
answer_to (Some (Unix second)) = unix_answer second
answer_to (Some (Stamp second nanosecond)) = stamp_answer second nanosecond
answer_to (Some (Run second nanosecond calls)) = run_answer second nanosecond calls
answer_to (Some (Chain second nanosecond start steps)) = chain_answer second nanosecond start steps
answer_to None = codes "bad line"

-- the answer to a line, with its line feed
unfoldable pub answer_of : List ℕ → List ℕ
answer_of line = answer_to (request_of line) ++ 10 ∷ []

-- whether the replies to a request take memory: those of a run from an instant in range do
abbrev pub request_takes_memory : Option Request → Bool
request_takes_memory (Some (Unix second)) = false
request_takes_memory (Some (Stamp second nanosecond)) = false
request_takes_memory (Some (Run second nanosecond calls)) = is_ok (timestamp_of_parts second nanosecond)
request_takes_memory (Some (Chain second nanosecond start steps)) = false
request_takes_memory None = false

-- whether a line takes memory for its replies
unfoldable pub takes_memory : List ℕ → Bool
takes_memory line = request_takes_memory (request_of line)

-- the answers to the lines, one after another
abbrev pub answers_of : List (List ℕ) → List ℕ
answers_of lines = flat_map answer_of lines
