-- The request of a line, by its words.
use Rattle.std.specs.Prelude.{ℕ, nat_lt, List, [], ◌∷◌, length, codes, if◌then◌else◌, ℤ, Option, None}
use Rattle.std.specs.Option.{option_map, option_and_then}
use Rattle.std.specs.Str.{bytes_eq}
use Rattle.stamp_times.specs.declared.runs.calls.Call.{Call}
use Rattle.stamp_times.specs.declared.chains.steps.Step.{Step}
use Rattle.times_bench.specs.CallWords.{call_of}
use Rattle.times_bench.specs.Numbers.{i64_of, u32_of}
use Rattle.times_bench.specs.StepWords.{step_of}
use Rattle.times_bench.specs.Words.{words_of, exactly_one, exactly_two, all_of}

-- the requests of lines
pub data Request : Type 0 where
  Unix : ℤ → Request
  Stamp : ℤ → ℕ → Request
  Run : ℤ → ℕ → List Call → Request
  Chain : ℤ → ℕ → Step → List Step → Request

-- `unix S`: S is a Unix second of 64 bits
unfoldable pub unix_request : List (List ℕ) → Option Request
unix_request words = option_and_then (λ second. option_map Unix (i64_of second)) (exactly_one words)

-- `stamp S N`: N is a nanosecond of 32 bits
unfoldable pub stamp_request : List (List ℕ) → Option Request
stamp_request words =
    option_and_then (λ parts. option_and_then (λ s. option_map (Stamp s) (u32_of parts.1)) (i64_of parts.0)) (exactly_two words)

-- S and N, and the words after them
unfoldable pub parse_instant : List (List ℕ) → Option (ℤ × ℕ × List (List ℕ))
parse_instant [] = None
parse_instant (second ∷ []) = None
parse_instant (second ∷ nanosecond ∷ words) =
    option_and_then (λ s. option_map (λ n. (s, n, words)) (u32_of nanosecond)) (i64_of second)

-- `run S N CALL..`
unfoldable pub run_request : List (List ℕ) → Option Request
run_request words = option_and_then (λ from. option_map (Run from.0 from.1) (all_of call_of from.2)) (parse_instant words)

-- `START STEP..`: START names the type of the start, as a step names the type after it
unfoldable pub chain_from : ℤ → ℕ → List (List ℕ) → Option Request
chain_from s n [] = None
chain_from s n (start ∷ steps) = option_and_then (λ at. option_map (Chain s n at) (all_of step_of steps)) (step_of start)

-- `chain S N START STEP..`
unfoldable pub chain_request : List (List ℕ) → Option Request
chain_request words = option_and_then (λ from. chain_from from.0 from.1 from.2) (parse_instant words)

-- the request of the words of a line: the first names its kind
abbrev pub request_of_words : List (List ℕ) → Option Request
request_of_words [] = None
request_of_words (kind ∷ words) =
    if bytes_eq kind (codes "unix") then unix_request words
    else (if bytes_eq kind (codes "stamp") then stamp_request words
    else (if bytes_eq kind (codes "run") then run_request words
    else (if bytes_eq kind (codes "chain") then chain_request words
    else None)))

-- the most bytes of a line that has a request
abbrev pub longest_line : ℕ
longest_line = 1024

-- the request of a line, or None if it is too long or has no request
unfoldable pub request_of : List ℕ → Option Request
request_of line = if nat_lt longest_line (length line) then None else request_of_words (words_of line)
