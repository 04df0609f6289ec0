-- A log that is read line by line.
use Rattle.std.specs.Prelude.{◌≡◌, ◌⊎◌, ℕ, ◌+◌, ◌-◌, ◌^◌, ◌<◌, ◌≤◌, Bool, true, false, min, List, [], ◌++◌, length, Option, Some, None, if◌then◌else◌}
use Rattle.std.specs.Prelude.{Result, IfSome, MatchResult}
use Rattle.std.specs.Option.{option_or}
use Rattle.std.specs.Io.KnownBytes.{Appends, Consumes}
use Rattle.line_devices.specs.Device.{Devices}
use Rattle.line_devices.specs.StampTallies.{tally_after}
use Rattle.line_devices.specs.Writing.{AppendsBeginning, Sends}
use Rattle.line_devices.specs.declared.stamp_tallies.LineKind.{LineKind}
use Rattle.line_devices.specs.declared.stamp_tallies.LineKind.TheVariants.{Empty}
use Rattle.line_merges.specs.Instants.{LogReading, is_before}
use Rattle.line_merges.specs.LineFronts.{front_line, has_line_feed, line_in}
use Rattle.line_merges.specs.Lines.{first_place, instant_at, kind_at}
use Rattle.line_merges.specs.declared.logs.Front.{Front}
use Rattle.line_merges.specs.declared.logs.Log.{Log}
use Rattle.line_merges.specs.declared.logs.LogFault.{LogFault}
use Rattle.line_merges.specs.declared.logs.LogFault.TheVariants.{Read, Write, Endless}
use Rattle.line_merges.specs.declared.logs.Place.{Place}

-- the log of a reader, of which nothing was read, and of whose lines this is known
abbrev pub new_log : {M : Type 0} {R : Type 0} → R → M → Log R M
new_log reader memory = record {
  reader = reader;
  memory = memory;
  front = record { buffer = []; is_ended = false; place = first_place; has_line = false; next = None; kind = Empty };
}

-- the bytes decide on the instant of the next line: a line feed ends it, or the log is at its end, or it is long
abbrev pub IsEnough : Front → Type 0
IsEnough front = (front.is_ended ≡ true) ⊎ ((65536 ≤ length front.buffer) ⊎ (has_line_feed front.buffer ≡ true))

-- the next line is known, whatever bytes follow: none follow if the log is at its end
pub record IsReady {M : Type 0} (reading : LogReading M) (front : Front) : Type 0 where
  pub line : front.has_line ≡ true → 0 < length front.buffer
  pub none : front.has_line ≡ false → (front.buffer ≡ []) × (front.is_ended ≡ true)
  pub next : front.has_line ≡ true → (future : List ℕ) → (front.is_ended ≡ true → future ≡ [])
      → instant_at reading front.place (line_in (front.buffer ++ future)) ≡ front.next
  pub kind : front.has_line ≡ true → (future : List ℕ) → (front.is_ended ≡ true → future ≡ [])
      → kind_at reading front.place (line_in (front.buffer ++ future)) ≡ front.kind
  pub after : front.has_line ≡ true → (future : List ℕ) → (front.is_ended ≡ true → future ≡ []) → (number : ℕ) (kind : LineKind)
      → reading.after reading.memory number kind (line_in (front.buffer ++ future))
      ≡ reading.after reading.memory number kind (line_in front.buffer)

-- nothing is left to read, if it was known before
abbrev pub IsAtEndAfter : Option (List ℕ) → Option (List ℕ) → Type 0
IsAtEndAfter before after = IfSome before (λ _. after ≡ Some [])

-- more bytes were read after those that were there
pub record Reads (old new : Front) (before after : Devices) (more : List ℕ) : Type 0 where
  pub added : new.buffer ≡ old.buffer ++ more
  pub consumed : Consumes before.left after.left more
  pub place : new.place ≡ old.place
  pub ended : old.is_ended ≡ true → (more ≡ []) × (new.is_ended ≡ true) × (after.left ≡ before.left)
  pub end : old.is_ended ≡ false → new.is_ended ≡ true → IsAtEndAfter before.left after.left

-- no call failed
pub record IsUnfailed (before after : Devices) : Type 0 where
  pub read : after.read_failed ≡ before.read_failed
  pub write : after.write_failed ≡ before.write_failed

-- some of a text was written
abbrev pub AppendsFront : Option (List ℕ) → Option (List ℕ) → List ℕ → Type 0
AppendsFront old new text = (front : List ℕ) × (rest : List ℕ) × Appends old new front × (text ≡ front ++ rest)

-- a call failed when this text was to be written, after these bytes were read: a read, when all of the text was written, or a write,
-- when a beginning and not all of it was. Or the line has too many bytes
abbrev pub Fails : LogFault → Devices → Devices → List ℕ → List ℕ → Type 0
Fails Read before after text more =
    Appends before.written after.written text × (after.read_failed ≡ true) × (after.write_failed ≡ before.write_failed)
Fails Write before after text more =
    AppendsBeginning before.written after.written text × (after.read_failed ≡ before.read_failed) × (after.write_failed ≡ true)
Fails Endless before after text more =
    AppendsFront before.written after.written text × IsUnfailed before after × (2 ^ 64 - 1 ≤ length more)

-- one read, unless the log is at its end: it gave bytes, or found the end
abbrev pub ReadsOn : Result Unit LogFault → Front → Front → Devices → Devices → List ℕ → List ℕ → Type 0
ReadsOn result old new before after was_pending pending =
    (more : List ℕ) × Reads old new before after more
    × MatchResult result
    (λ _. Sends before.written after.written pending was_pending × IsUnfailed before after
    × (new.is_ended ≡ false → 0 < length more) × (new.is_ended ≡ true → more ≡ []) × (new.next ≡ old.next) × (new.kind ≡ old.kind))
    (λ fault. (more ≡ []) × Fails fault before after was_pending more)

-- as many reads as the next line needs
abbrev pub FindsNext : {M : Type 0} → Result Unit LogFault → LogReading M → Front → Front → Devices → Devices → List ℕ → List ℕ → Type 0
FindsNext result reading old new before after was_pending pending =
    (more : List ℕ) × Reads old new before after more
    × MatchResult result
    (λ _. Sends before.written after.written pending was_pending × IsUnfailed before after × IsReady reading new)
    (λ fault. Fails fault before after was_pending more × (has_line_feed new.buffer ≡ false))

-- what is known of a log after its next line
abbrev pub memory_behind : {M : Type 0} → LogReading M → Front → M
memory_behind reading front =
    reading.after reading.memory (min (front.place.lines + 1) (2 ^ 64 - 1)) front.kind (line_in front.buffer)

-- the place after the next line
abbrev pub place_behind : Front → Place
place_behind front =
    let number = min (front.place.lines + 1) (2 ^ 64 - 1) in
    record {
      lines = number;
      last = front.next;
      back = option_or front.place.back (if is_before front.next front.place.last then Some number else None);
      stamps = tally_after front.place.stamps number front.kind;
    }

-- the next line was sent, and its log is at the place after it
pub record Passed (is_ended : Bool) (old new : Front) (before after : Devices) (was_pending pending more : List ℕ) : Type 0 where
  pub text : front_line (old.buffer ++ more) ++ new.buffer ≡ old.buffer ++ more
  pub feed : has_line_feed (old.buffer ++ more) ≡ is_ended
  pub unended : is_ended ≡ false → (new.buffer ≡ []) × (new.is_ended ≡ true)
  pub place : new.place ≡ place_behind old
  pub ended : old.is_ended ≡ true → (new.is_ended ≡ true) × (after.left ≡ before.left)
  pub end : old.is_ended ≡ false → new.is_ended ≡ true → IsAtEndAfter before.left after.left
  pub sent : Sends before.written after.written pending (was_pending ++ front_line (old.buffer ++ more))
  pub unfailed : IsUnfailed before after

-- the next line was sent, with as many reads as it needs
abbrev pub PassesLine : Result Bool LogFault → Front → Front → Devices → Devices → List ℕ → List ℕ → Type 0
PassesLine result old new before after was_pending pending =
    (more : List ℕ) × Consumes before.left after.left more × (old.is_ended ≡ true → more ≡ [])
    × MatchResult result (λ is_ended. Passed is_ended old new before after was_pending pending more)
    (λ fault. Fails fault before after (was_pending ++ front_line (old.buffer ++ more)) more
    × (fault ≡ Read → has_line_feed (old.buffer ++ more) ≡ false))
