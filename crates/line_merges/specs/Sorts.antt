-- The lines of one log in the order of their instants.
use Rattle.std.specs.Prelude.{◌≡◌, ℕ, ◌+◌, ◌-◌, ◌^◌, ◌&&◌, ◌||◌, nat_lt, Bool, true, false, map}
use Rattle.std.specs.Prelude.{min, List, [], ◌∷◌, ◌++◌, ℤ, ◌-ℤ◌, int_lt, Option, Some, None, if◌then◌else◌}
use Rattle.std.specs.Prelude.{IsPermutation, IsSortedByKey}
use Rattle.std.specs.Io.KnownBytes.{Appends}
use Rattle.std.specs.List.Sorted.{IsStableByKey}
use Rattle.std.specs.Option.{option_cmp, option_or}
use Rattle.std.specs.Ordering.{int_cmp}
use Rattle.line_merges.specs.Instants.{LogReading, is_before}
use Rattle.line_merges.specs.Lines.{Line, first_place, line_at, log_lines, place_after, place_after_lines, reading_after, reading_after_lines}
use Rattle.line_merges.specs.declared.sorts.Distance.{Distance}
use Rattle.line_merges.specs.declared.sorts.Held.{Held}
use Rattle.line_merges.specs.declared.sorts.Lateness.{Lateness}
use Rattle.line_merges.specs.declared.sorts.Reading.{Reading}
use Rattle.line_merges.specs.declared.sorts.Sorted.{Sorted}

-- no lines are late
abbrev pub first_lateness : ℤ → Lateness
first_lateness window = record { window = window; latest = None; count = 0; first = None }

-- whether an instant is before the latest one by more than a window: a line without an instant up to it is not late
abbrev pub is_late : ℤ → Option ℤ → Option ℤ → Bool
is_late window (Some latest) (Some at) = int_lt at latest && int_lt window (latest -ℤ at)
is_late window None instant = false
is_late window (Some latest) None = false

-- the later of two instants, each of which may be missing
abbrev pub later_of : Option ℤ → Option ℤ → Option ℤ
later_of latest instant = if is_before latest instant then instant else latest

-- the lateness with a line of this number
abbrev pub late_by : Bool → Option ℤ → Lateness → ℕ → Lateness
late_by true latest lateness number = record {
  window = lateness.window;
  latest = latest;
  count = min (lateness.count + 1) (2 ^ 64 - 1);
  first = option_or lateness.first (Some number);
}
late_by false latest lateness number =
    record { window = lateness.window; latest = latest; count = lateness.count; first = lateness.first }

abbrev pub late_after : Lateness → ℕ → Option ℤ → Lateness
late_after lateness number instant =
    late_by (is_late lateness.window lateness.latest instant) (later_of lateness.latest instant) lateness number

-- the lateness with lines, one after another
unfoldable pub late_after_lines : Lateness → List Line → Lateness
late_after_lines lateness [] = lateness
late_after_lines lateness (line ∷ lines) = late_after_lines (late_after lateness line.number line.instant) lines

-- a held line: the instant up to a line, its bytes, and its number
abbrev pub held_as : Held → Option ℤ × (List ℕ × ℕ)
held_as held = (held.instant, (held.bytes.now, held.number))

abbrev pub line_as : Line → Option ℤ × (List ℕ × ℕ)
line_as line = (line.instant, (line.bytes, line.number))

-- no lines are far from their places
abbrev pub first_distance : ℕ → Distance
first_distance most = record { most = most; count = 0; first = None }

-- whether a line of a number in the log is further from a place in the order than so many lines
abbrev pub is_far : ℕ → ℕ → ℕ → Bool
is_far most number place = nat_lt most (number - place) || nat_lt most (place - number)

-- the lesser of two numbers, of which the first may be missing
abbrev pub least_of : Option ℕ → ℕ → ℕ
least_of None number = number
least_of (Some first) number = min first number

-- the distance with a line of this number, which is far or not
abbrev pub far_by : Bool → Distance → ℕ → Distance
far_by true distance number = record {
  most = distance.most;
  count = min (distance.count + 1) (2 ^ 64 - 1);
  first = Some (least_of distance.first number);
}
far_by false distance number = distance

abbrev pub far_after : Distance → ℕ → ℕ → Distance
far_after distance number place = far_by (is_far distance.most number place) distance number

-- the distance with lines, one after another, behind so many in the order
unfoldable pub far_after_lines : Distance → ℕ → List Held → Distance
far_after_lines distance before [] = distance
far_after_lines distance before (line ∷ lines) = far_after_lines (far_after distance line.number (before + 1)) (before + 1) lines

-- the next line of a log was taken in
pub record ReadsLine {M : Type 0} (by : LogReading M) (bytes : List ℕ) (old new : Reading M) : Type 0 where
  pub held : map held_as new.held.items ≡ map held_as old.held.items ++ line_as (line_at by old.place bytes true) ∷ []
  pub place : new.place ≡ place_after old.place (line_at by old.place bytes true)
  pub memory : new.memory ≡ (reading_after by (line_at by old.place bytes true)).memory
  pub lateness : new.lateness ≡ late_after old.lateness (line_at by old.place bytes true).number (line_at by old.place bytes true).instant

-- all lines of a log were taken in
pub record HasRead {M : Type 0} (by : LogReading M) (first : Lateness) (log : List ℕ) (reading : Reading M) : Type 0 where
  pub held : map held_as reading.held.items ≡ map line_as (log_lines by log)
  pub place : reading.place ≡ place_after_lines first_place (log_lines by log)
  pub memory : reading.memory ≡ (reading_after_lines by (log_lines by log)).memory
  pub lateness : reading.lateness ≡ late_after_lines first (log_lines by log)

-- the same lines in the order of their instants, and those of one instant in the order before
pub record IsInOrderOf (held out : List Held) : Type 0 where
  pub same : IsPermutation held out
  pub order : IsSortedByKey (λ line. line.instant) (option_cmp int_cmp) out
  pub stable : IsStableByKey (λ line. line.instant) (option_cmp int_cmp) held out

-- the text of lines, each with a line feed
unfoldable pub held_text : List Held → List ℕ
held_text [] = []
held_text (line ∷ lines) = line.bytes.now ++ 10 ∷ held_text lines

-- a log was sorted: each of its lines was written once, in the order of their instants
pub record Sorts {M : Type 0} (by : LogReading M) (window : ℤ) (most : ℕ) (log : List ℕ) (old new : Option (List ℕ)) (sorted : Sorted M) : Type 0 where
  pub held : List Held
  pub out : List Held
  pub lines : map held_as held ≡ map line_as (log_lines by log)
  pub order : IsInOrderOf held out
  pub written : Appends old new (held_text out)
  pub place : sorted.place ≡ place_after_lines first_place (log_lines by log)
  pub memory : sorted.memory ≡ (reading_after_lines by (log_lines by log)).memory
  pub lateness : sorted.lateness ≡ late_after_lines (first_lateness window) (log_lines by log)
  pub distance : sorted.distance ≡ far_after_lines (first_distance most) 0 out
