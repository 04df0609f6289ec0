-- Laws of all instants: counts, replaced parts of a second and texts identify their instants.
-- Runs and chains continue from the end of others. A function of `src/laws.rt` proves each of the laws.
use Rattle.std.specs.Prelude.{◌≡◌, ◌≢◌, ℕ, ◌+◌, List, ◌∷◌, ◌++◌, length, codes, ℤ, Option, Some, None, option_map}
use Rattle.calendar_values.specs.Clock.{clock_of_parts, hour_of, minute_of, second_of}
use Rattle.calendar_values.specs.WallClock.{wall_time, unix_seconds_of, IsInstant}
use Rattle.calendar_values.specs.Refusals.{Refusal}
use Rattle.plain_times.specs.Replacements.{with_time}
use Rattle.utc_times.specs.UnixTime.{instant_of_second}
use Rattle.stamp_times.specs.Instants.{instant_of_parts, instant_of_milliseconds, instant_of_microseconds, unix_milliseconds_of, unix_microseconds_of}
use Rattle.stamp_times.specs.Counter.{reply, replies, instant_after, last_instant}
use Rattle.stamp_times.specs.Texts.{timestamp_text}
use Rattle.stamp_times.specs.Travel.{stop_index, held_after}
use Rattle.stamp_times.specs.declared.chains.steps.Held.{Held}
use Rattle.stamp_times.specs.declared.chains.steps.Step.{Step}
use Rattle.stamp_times.specs.declared.runs.calls.Call.{Call}
use Rattle.stamp_times.specs.declared.runs.calls.Reply.TheVariants as replied

-- the instant of a count has this count
pub record CountsReadAsGiven : Type 0 where
  pub seconds : (count : ℤ) → unix_seconds_of (instant_of_second count) ≡ count
  pub milliseconds : (count : ℤ) → unix_milliseconds_of (instant_of_milliseconds count) ≡ count
  pub microseconds : (count : ℤ) → unix_microseconds_of (instant_of_microseconds count) ≡ count

-- another nanosecond of the second, with the hour, the minute and the second kept, is another nanosecond of the same Unix second
abbrev pub NanosecondsKeepTheSecond : Type 0
NanosecondsKeepTheSecond = (i : ℤ) (n : ℕ)
    → with_time i (clock_of_parts (hour_of (wall_time i)) (minute_of (wall_time i)) (second_of (wall_time i)) n) ≡ instant_of_parts (unix_seconds_of i) n

-- no two instants in range have the same text, no fraction ends in a zero, and no text is `-0`
pub record TextsTellInstants : Type 0 where
  pub distinct : (i j : ℤ) → IsInstant i → IsInstant j → timestamp_text i ≡ timestamp_text j → i ≡ j
  pub no_zero_ends_a_fraction : (i : ℤ) (whole digits front : List ℕ) → IsInstant i
      → timestamp_text i ≡ whole ++ codes "." ++ digits → digits ≢ front ++ codes "0"
  pub no_negative_zero : (i : ℤ) → IsInstant i → timestamp_text i ≢ codes "-0"

-- calls after calls: the rest start from the counter after the first
pub record RunsCompose : Type 0 where
  pub replies_of_both : (i : ℤ) (first rest : List Call) → replies i (first ++ rest) ≡ replies i first ++ replies (last_instant i first) rest
  pub last_of_both : (i : ℤ) (first rest : List Call) → last_instant i (first ++ rest) ≡ last_instant (last_instant i first) rest

-- a call that fails changes nothing, so the calls after it end as they do without it
pub record RefusedCallsChangeNothing : Type 0 where
  pub sums : (i : ℤ) (c : Call) → reply i c ≡ replied.Refused → instant_after i c ≡ i
  pub parts : (i : ℤ) (c : Call) (refusal : Refusal) → reply i c ≡ replied.RefusedPart refusal → instant_after i c ≡ i
  pub left_out : (i : ℤ) (first rest : List Call) (c : Call) → instant_after (last_instant i first) c ≡ last_instant i first
      → last_instant i (first ++ (c ∷ rest)) ≡ last_instant i (first ++ rest)

-- the index at which steps after steps stop: in the first, or else in the rest, plus the number of the first
abbrev pub stop_of_both : Option ℕ → ℕ → Option ℕ → Option ℕ
stop_of_both (Some k) steps stop = Some k
stop_of_both None steps stop = option_map (λ k. k + steps) stop

-- steps after steps: the rest start from the value after the first
pub record ChainsCompose : Type 0 where
  pub stop : (i : ℤ) (first rest : List Step) → stop_index i (first ++ rest) ≡ stop_of_both (stop_index i first) (length first) (stop_index i rest)
  pub held : (held : Held) (i : ℤ) (first rest : List Step) → held_after held i (first ++ rest) ≡ held_after (held_after held i first) i rest
