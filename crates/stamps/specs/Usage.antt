-- The usage of the program as a relation: the request or the misuse of words.
use Rattle.std.specs.Prelude.{◌≡◌, ◌↔◌, ℕ, ℤ, pos, Bool, true, false, List, [], ◌∷◌, codes, Some, None, Ok, Err}
use Rattle.std.specs.List.{list_any}
use Rattle.std.specs.Str.{bytes_eq}
use Rattle.offset_times.specs.Local.{instant_of}
use Rattle.rfc3339.specs.Front.{offset_reading_of}
use Rattle.rfc3339.specs.Reading.{reading_as}
use Rattle.rfc3339.specs.declared.refusal.Component.{Component}
use Rattle.rfc3339.specs.declared.refusal.TextRefusal.{TextRefusal}
use Rattle.rfc3339.specs.declared.refusal.TextRefusal.TheVariants.{OutOfRange}
use Rattle.stamps.specs.Arguments.{bound_asked, clock, is_finer, limit_of, request_of, starts_all, starts_at, unit_of}
use Rattle.stamps.specs.Durations.{duration_of}
use Rattle.stamps.specs.declared.arguments.Misuse.{Misuse}
use Rattle.stamps.specs.declared.arguments.Misuse.TheVariants.{NoWord, UnknownWord, NoOffset, Offset, NoInstant, Instant}
use Rattle.stamps.specs.declared.arguments.Misuse.TheVariants.{TooFine, NoUnit, Unit, NoDuration, Duration, Extra}
use Rattle.stamps.specs.declared.arguments.Request.{Request}
use Rattle.stamps.specs.declared.arguments.Request.TheVariants.{Help, Version, Work, Cut, Merge, Count}
use Rattle.stamps.specs.declared.bounds.Bound.{Bound}
use Rattle.stamps.specs.declared.bounds.Bound.TheVariants.{Exact}
use Rattle.stamps.specs.declared.bounds.Cut as cuts
use Rattle.stamps.specs.declared.bounds.Cut.TheVariants.{Since, Until, Between}
use Rattle.stamps.specs.declared.counts.Clock.{Clock}
use Rattle.stamps.specs.declared.counts.Unit as units
use Rattle.stamps.specs.declared.task.Style.TheVariants.{Utc, At, Unix}
use Rattle.stamps.specs.declared.task.Action.{Action}
use Rattle.stamps.specs.declared.task.Action.TheVariants.{Write, Check, CheckAll, Gaps}

-- [--strict]
pub data StrictWords (words : List (List ℕ)) : Bool → Type 0 where
  lenient : words ≡ [] → StrictWords words false
  strict : words ≡ codes "--strict" ∷ [] → StrictWords words true

-- utc, unix, at OFFSET, check, check --all, gaps DURATION: a task, and the words that follow it
pub data FrontWords (words more : List (List ℕ)) : (Bool → Action) → Type 0 where
  utc : words ≡ codes "utc" ∷ more → FrontWords words more (Write Utc)
  unix : words ≡ codes "unix" ∷ more → FrontWords words more (Write Unix)
  at : {text : List ℕ} {offset : ℤ} → words ≡ codes "at" ∷ text ∷ more → offset_reading_of text ≡ Ok offset
      → FrontWords words more (Write (At offset))
  check : words ≡ codes "check" ∷ more → starts_all more ≡ false → FrontWords words more Check
  check_all : words ≡ codes "check" ∷ codes "--all" ∷ more → FrontWords words more CheckAll
  gaps : {text : List ℕ} {seconds : ℕ} → words ≡ codes "gaps" ∷ text ∷ more → duration_of text ≡ Some seconds
      → FrontWords words more (Gaps (limit_of seconds))

-- count UNIT, count UNIT at OFFSET: a clock, and the words that follow it
pub data ClockWords (words more : List (List ℕ)) : Clock → Type 0 where
  in_utc : {text : List ℕ} {unit : units.Unit} → words ≡ codes "count" ∷ text ∷ more → unit_of text ≡ Some unit → starts_at more ≡ false
      → ClockWords words more (clock unit (pos 0))
  at_offset : {text written : List ℕ} {unit : units.Unit} {offset : ℤ} → words ≡ codes "count" ∷ text ∷ codes "at" ∷ written ∷ more
      → unit_of text ≡ Some unit → offset_reading_of written ≡ Ok offset → ClockWords words more (clock unit offset)

-- the same, and perhaps --all: whether each unit without lines has a row
pub data CountWords (words more : List (List ℕ)) : Clock → Bool → Type 0 where
  some_rows : {by : Clock} → ClockWords words more by → starts_all more ≡ false → CountWords words more by false
  all_rows : {by : Clock} → ClockWords words (codes "--all" ∷ more) by → CountWords words more by true

-- a bound: a date-time that is not finer than a nanosecond, a date or a date-time without an offset, a duration back
abbrev pub IsBound : List ℕ → Bound → Type 0
IsBound text bound = bound_asked text ≡ Ok bound

-- until, between BOUND, since BOUND --until: a cut by its last bound, and the words that follow it, which begin with that bound
pub data BoundWords (words more : List (List ℕ)) : (Bound → cuts.Cut) → Type 0 where
  until : words ≡ codes "until" ∷ more → BoundWords words more Until
  between : {text : List ℕ} {from : Bound} → words ≡ codes "between" ∷ text ∷ more → IsBound text from → BoundWords words more (Between from)
  since_until : {text : List ℕ} {from : Bound} → words ≡ codes "since" ∷ text ∷ codes "--until" ∷ more → IsBound text from
      → BoundWords words more (Between from)

-- since, between: the words that follow, which begin with the first bound
pub data FirstBoundWords (words more : List (List ℕ)) : Type 0 where
  since_first : words ≡ codes "since" ∷ more → FirstBoundWords words more
  between_first : words ≡ codes "between" ∷ more → FirstBoundWords words more

-- since, until, between BOUND, since BOUND --until: the words that follow, which begin with a bound
pub data BeforeBound (words more : List (List ℕ)) : Type 0 where
  first : FirstBoundWords words more → BeforeBound words more
  last : {cut : Bound → cuts.Cut} → BoundWords words more cut → BeforeBound words more

-- the words that make a request
pub data RequestWords (words : List (List ℕ)) : Request → Type 0 where
  -- --help
  help : words ≡ codes "--help" ∷ [] → RequestWords words Help
  -- --version
  version : words ≡ codes "--version" ∷ [] → RequestWords words Version
  -- merge [--strict]
  merge : {more : List (List ℕ)} {is_strict : Bool} → words ≡ codes "merge" ∷ more → StrictWords more is_strict → RequestWords words (Merge is_strict)
  -- count UNIT [at OFFSET] [--all] [--strict]
  count : {by : Clock} {more : List (List ℕ)} {shows_all is_strict : Bool} → CountWords words more by shows_all → StrictWords more is_strict
      → RequestWords words (Count by shows_all is_strict)
  -- utc [--strict], unix [--strict], at OFFSET [--strict], check [--all] [--strict], gaps DURATION [--strict]
  task : {work : Bool → Action} {more : List (List ℕ)} {is_strict : Bool} → FrontWords words more work → StrictWords more is_strict
      → RequestWords words (Work (work is_strict))
  -- since BOUND
  since_cut : {text : List ℕ} {from : Bound} → words ≡ codes "since" ∷ text ∷ [] → IsBound text from → RequestWords words (Cut (Since from))
  -- until BOUND, between BOUND BOUND, since BOUND --until BOUND
  bound_cut : {cut : Bound → cuts.Cut} {text : List ℕ} {bound : Bound} → BoundWords words (text ∷ []) cut → IsBound text bound
      → RequestWords words (Cut (cut bound))

-- the words with which a request begins
abbrev pub first_words : List (List ℕ)
first_words =
    codes "--help" ∷ codes "--version" ∷ codes "merge" ∷ codes "count" ∷ codes "utc" ∷ codes "unix" ∷ codes "at" ∷ codes "check" ∷ codes "gaps"
    ∷ codes "since" ∷ codes "until" ∷ codes "between" ∷ []

-- the words that are a misuse
pub data MisuseWords (words : List (List ℕ)) : Misuse → Type 0 where
  -- there is no word
  no_word : words ≡ [] → MisuseWords words NoWord
  -- no request begins with the first word
  unknown_word : {word : List ℕ} {more : List (List ℕ)} → words ≡ word ∷ more → list_any (bytes_eq word) first_words ≡ false
      → MisuseWords words UnknownWord
  -- the offset is missing, or invalid
  no_offset : words ≡ codes "at" ∷ [] → MisuseWords words NoOffset
  offset : {text : List ℕ} {more : List (List ℕ)} {refusal : TextRefusal} → words ≡ codes "at" ∷ text ∷ more
      → offset_reading_of text ≡ Err refusal → MisuseWords words (Offset refusal)
  -- the unit of a count is missing or unknown, or its offset is missing or invalid
  no_unit : words ≡ codes "count" ∷ [] → MisuseWords words NoUnit
  unit : {text : List ℕ} {more : List (List ℕ)} → words ≡ codes "count" ∷ text ∷ more → unit_of text ≡ None → MisuseWords words Unit
  no_count_offset : {text : List ℕ} {unit : units.Unit} → words ≡ codes "count" ∷ text ∷ codes "at" ∷ [] → unit_of text ≡ Some unit
      → MisuseWords words NoOffset
  count_offset : {text written : List ℕ} {more : List (List ℕ)} {unit : units.Unit} {refusal : TextRefusal}
      → words ≡ codes "count" ∷ text ∷ codes "at" ∷ written ∷ more → unit_of text ≡ Some unit → offset_reading_of written ≡ Err refusal
      → MisuseWords words (Offset refusal)
  -- the duration is missing or invalid
  no_duration : words ≡ codes "gaps" ∷ [] → MisuseWords words NoDuration
  duration : {text : List ℕ} {more : List (List ℕ)} → words ≡ codes "gaps" ∷ text ∷ more → duration_of text ≡ None → MisuseWords words Duration
  -- a bound is missing, or none, for its reason
  no_instant : BeforeBound words [] → MisuseWords words NoInstant
  no_bound : {text : List ℕ} {more : List (List ℕ)} {misuse : Misuse} → BeforeBound words (text ∷ more)
      → bound_asked text ≡ Err misuse → MisuseWords words misuse
  -- a word follows a request, and is not `--strict` alone where that may follow
  after_help : {word : List ℕ} {more : List (List ℕ)} → words ≡ codes "--help" ∷ word ∷ more → MisuseWords words Extra
  after_version : {word : List ℕ} {more : List (List ℕ)} → words ≡ codes "--version" ∷ word ∷ more → MisuseWords words Extra
  after_merge : {word : List ℕ} {more : List (List ℕ)} → words ≡ codes "merge" ∷ word ∷ more → ¬ (word ∷ more ≡ codes "--strict" ∷ [])
      → MisuseWords words Extra
  after_count : {by : Clock} {shows_all : Bool} {word : List ℕ} {more : List (List ℕ)} → CountWords words (word ∷ more) by shows_all
      → ¬ (word ∷ more ≡ codes "--strict" ∷ []) → MisuseWords words Extra
  after_task : {work : Bool → Action} {word : List ℕ} {more : List (List ℕ)} → FrontWords words (word ∷ more) work
      → ¬ (word ∷ more ≡ codes "--strict" ∷ []) → MisuseWords words Extra
  after_since : {text other : List ℕ} {more : List (List ℕ)} {from : Bound} → words ≡ codes "since" ∷ text ∷ other ∷ more → IsBound text from
      → bytes_eq other (codes "--until") ≡ false → MisuseWords words Extra
  after_bound : {cut : Bound → cuts.Cut} {text other : List ℕ} {more : List (List ℕ)} {bound : Bound} → BoundWords words (text ∷ other ∷ more) cut
      → IsBound text bound → MisuseWords words Extra

-- a date-time with an offset is a bound for its instant exactly if it is not finer than a nanosecond, and with a part out of its
-- range it is none
pub record BoundsAreInstants : Type 0 where
  pub instant : (text : List ℕ) (i : ℤ) → reading_as instant_of text ≡ Ok i → is_finer text ≡ false → bound_asked text ≡ Ok (Exact i)
  pub too_fine : (text : List ℕ) (i : ℤ) → reading_as instant_of text ≡ Ok i → is_finer text ≡ true → bound_asked text ≡ Err TooFine
  pub only : (text : List ℕ) (i : ℤ) → bound_asked text ≡ Ok (Exact i) → (reading_as instant_of text ≡ Ok i) × (is_finer text ≡ false)
  pub out_of_range : (text : List ℕ) (component : Component) → reading_as instant_of text ≡ Err (OutOfRange component)
      → bound_asked text ≡ Err (Instant (OutOfRange component))

-- words make a request, or are a misuse, exactly as the usage says
pub record WordsAskAsTheUsageSays : Type 0 where
  pub request : (words : List (List ℕ)) (request : Request) → (request_of words ≡ Ok request) ↔ RequestWords words request
  pub misuse : (words : List (List ℕ)) (misuse : Misuse) → (request_of words ≡ Err misuse) ↔ MisuseWords words misuse
