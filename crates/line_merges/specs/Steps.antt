-- The logs and the writer between two lines of a merge.
use Rattle.std.specs.Prelude.{◌≡◌, ℕ, ◌+◌, ◌-◌, ◌^◌, ◌&&◌, min, if◌then◌else◌, Bool, true, false, not, List, [], ◌∷◌, ◌++◌, length, Option, Some}
use Rattle.std.specs.Prelude.{None, Result, Ok, Err}
use Rattle.std.specs.Option.{option_map}
use Rattle.std.specs.Io.KnownBytes.{Consumes}
use Rattle.line_devices.specs.Writing.{Sends}
use Rattle.line_merges.specs.Instants.{LogReading, is_before, reading_from}
use Rattle.line_merges.specs.Lines.{Line, first_place, lines_from, log_lines, place_after_lines, reading_after_lines}
use Rattle.line_merges.specs.Logs.{IsAtEndAfter, IsReady}
use Rattle.line_merges.specs.Merges.{IsMerge, merge_text}
use Rattle.line_merges.specs.Runs.{IsCut, LogState, NoneBack, Output}
use Rattle.line_merges.specs.declared.logs.Front.{Front}
use Rattle.line_merges.specs.declared.logs.LogFault.{LogFault}
use Rattle.line_merges.specs.declared.logs.LogFault.TheVariants as log
use Rattle.line_merges.specs.declared.merges.MergeFault.{MergeFault}
use Rattle.line_merges.specs.declared.merges.MergeFault.TheVariants.{Read, Write, Endless}

-- the front of a log
abbrev pub fronts_of : {M : Type 0} → (ℕ → Option (LogState M)) → ℕ → Option Front
fronts_of states k = option_map (λ log. log.front) (states k)

-- how the lines of a log are read from now on
abbrev pub reading_now : {M : Type 0} → LogReading M → Option (LogState M) → LogReading M
reading_now reading None = reading
reading_now reading (Some log) = reading_from reading log.memory

abbrev pub readings_now : {M : Type 0} → (ℕ → LogReading M) → (ℕ → Option (LogState M)) → ℕ → LogReading M
readings_now readings states k = reading_now (readings k) (states k)

-- the bytes that may be left of a log: those of its buffer, and others if it is not at its end
abbrev pub IsLeft : Option Front → List ℕ → Type 0
IsLeft None left = left ≡ []
IsLeft (Some front) left = (future : List ℕ) × (left ≡ front.buffer ++ future) × (front.is_ended ≡ true → future ≡ [])

-- the lines that are left of a log
abbrev pub front_lines : {M : Type 0} → LogReading M → Option Front → List ℕ → List Line
front_lines reading None left = []
front_lines reading (Some front) left = lines_from reading front.place left

-- whatever bytes are left, a merge of the lines that are left continues the merge
abbrev pub Leads : {M : Type 0} → (ℕ → LogReading M) → (ℕ → Option (LogState M)) → (ℕ → List ℕ) → List (ℕ × Line) → Type 0
Leads readings states passed out =
    (lefts : ℕ → List ℕ) → ((k : ℕ) → IsLeft (fronts_of states k) (lefts k)) → (more : List (ℕ × Line))
    → IsMerge (λ k. front_lines (readings_now readings states k) (fronts_of states k) (lefts k)) more
    → IsMerge (λ k. log_lines (readings k) (passed k ++ lefts k)) (out ++ more)

-- a log of which these bytes were passed
pub record IsPassed {M : Type 0} (reading : LogReading M) (old new : LogState M) (passed : List ℕ) : Type 0 where
  pub consumed : Consumes old.left new.left (passed ++ new.front.buffer)
  pub end : new.front.is_ended ≡ true → IsAtEndAfter old.left new.left
  pub unfailed : new.has_failed ≡ false
  pub place : (left : List ℕ) → IsLeft (Some new.front) left → place_after_lines first_place (log_lines reading (passed ++ left))
      ≡ place_after_lines new.front.place (lines_from (reading_from reading new.memory) new.front.place left)
  pub memory : (left : List ℕ) → IsLeft (Some new.front) left → reading_after_lines reading (log_lines reading (passed ++ left))
      ≡ reading_after_lines (reading_from reading new.memory) (lines_from (reading_from reading new.memory) new.front.place left)

abbrev pub HasPassed : {M : Type 0} → LogReading M → Option (LogState M) → Option (LogState M) → List ℕ → Type 0
HasPassed reading None None passed = passed ≡ []
HasPassed reading None (Some new) passed = ⊥
HasPassed reading (Some old) None passed = ⊥
HasPassed reading (Some old) (Some new) passed = IsPassed reading old new passed

-- whether no line feed ends the last line
abbrev pub is_open_after : Bool → List (ℕ × Line) → Bool
is_open_after is_open [] = is_open
is_open_after is_open (line ∷ more) = is_open_after (not line.1.is_ended) more

-- the lines so far were sent
pub record Stands {M : Type 0} (readings : ℕ → LogReading M) (is_strict : Bool) (first now : ℕ → Option (LogState M)) (before after : Output)
    (pending : List ℕ) (is_open : Bool) : Type 0 where
  pub passed : ℕ → List ℕ
  pub out : List (ℕ × Line)
  pub leads : Leads readings now passed out
  pub logs : (k : ℕ) → HasPassed (readings k) (first k) (now k) (passed k)
  pub sent : Sends before.written after.written pending (merge_text out)
  pub unended : is_open ≡ is_open_after false out
  pub forward : is_strict ≡ true → NoneBack out
  pub unfailed : after.has_failed ≡ false

-- the next line of a log is known, and if the merge is strict it is not earlier than the one before
abbrev pub IsKnown : {M : Type 0} → LogReading M → Bool → Option Front → Type 0
IsKnown reading is_strict None = ⊥
IsKnown reading is_strict (Some front) =
    IsReady reading front × (is_strict ≡ true → front.has_line ≡ true → is_before front.next front.place.last ≡ false)

-- the next line of each log is known
abbrev pub AreKnown : {M : Type 0} → (ℕ → LogReading M) → Bool → (ℕ → Option Front) → Type 0
AreKnown readings is_strict fronts = (k : ℕ) (front : Front) → fronts k ≡ Some front → IsKnown (readings k) is_strict (Some front)

-- the number of the next line, if the merge is strict and the line is earlier than the one before
abbrev pub back_line : Bool → Front → Option ℕ
back_line is_strict front =
    if is_strict && (front.has_line && is_before front.next front.place.last) then Some (min (front.place.lines + 1) (2 ^ 64 - 1)) else None

-- the fault of a merge by that of a log
abbrev pub fault_at : ℕ → LogFault → MergeFault
fault_at k log.Read = Read k
fault_at k log.Write = Write
fault_at k log.Endless = Endless

-- the next line of a log was sent
abbrev pub SendsNext : {M : Type 0} → Result Bool MergeFault → (ℕ → LogReading M) → Bool → ℕ → (ℕ → Option (LogState M)) → (ℕ → Option (LogState M))
    → (ℕ → Option (LogState M)) → Output → Output → Output → List ℕ → List ℕ → Bool → Type 0
SendsNext (Ok is_ended) readings is_strict k first old new before between after was_pending pending is_open =
    (was : Stands readings is_strict first old before between was_pending is_open)
    → (now : Stands readings is_strict first new before after pending (not is_ended)) × (length now.out ≡ length was.out + 1)
SendsNext (Err fault) readings is_strict k first old new before between after was_pending pending is_open =
    Stands readings is_strict first old before between was_pending is_open → IsCut fault readings is_strict first new before after

-- the next line of a log was found
abbrev pub FindsLine : {M : Type 0} → Result Unit MergeFault → (ℕ → LogReading M) → Bool → ℕ → (ℕ → Option (LogState M)) → (ℕ → Option (LogState M))
    → (ℕ → Option (LogState M)) → Output → Output → Output → List ℕ → List ℕ → Bool → Type 0
FindsLine (Ok done) readings is_strict k first old new before between after was_pending pending is_open =
    ((was : Stands readings is_strict first old before between was_pending is_open)
    → (now : Stands readings is_strict first new before after pending is_open) × (length now.out ≡ length was.out))
    × IsKnown (readings_now readings new k) is_strict (fronts_of new k)
FindsLine (Err fault) readings is_strict k first old new before between after was_pending pending is_open =
    Stands readings is_strict first old before between was_pending is_open → IsCut fault readings is_strict first new before after
