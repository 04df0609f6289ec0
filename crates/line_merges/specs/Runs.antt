-- The merge of logs by a program that reads them in turn.
use Rattle.std.specs.Prelude.{◌≡◌, ◌⊎◌, ℕ, ◌-◌, ◌^◌, ◌≤◌, Bool, true, false, List, [], ◌∷◌, ◌++◌, All, length, ⊤}
use Rattle.std.specs.Prelude.{Option, Some, None, Result, Ok, Err, slice_get}
use Rattle.std.specs.Option.{option_map}
use Rattle.std.specs.Io.KnownBytes.{Appends, Consumes}
use Rattle.line_devices.specs.Writing.{AppendsBeginning}
use Rattle.line_merges.specs.Instants.{LogReading}
use Rattle.line_merges.specs.Laws.{own_lines}
use Rattle.line_merges.specs.Lines.{Line, first_back, first_place, log_lines, reading_after_lines, stamp_tally}
use Rattle.line_merges.specs.Logs.{AppendsFront, IsAtEndAfter}
use Rattle.line_merges.specs.Merges.{IsMerge, merge_text}
use Rattle.line_merges.specs.declared.logs.Front.{Front}
use Rattle.line_merges.specs.declared.logs.Log.{Log}
use Rattle.line_merges.specs.declared.merges.MergeFault.{MergeFault}
use Rattle.line_merges.specs.declared.merges.MergeFault.TheVariants.{Read, Write, Back, Endless}

-- the state of a log: the bytes left to read, if they are known, whether a read failed, its front, and what is known of the lines
-- before the next one
pub record LogState (M : Type 0) : Type 0 where
  pub left : Option (List ℕ)
  pub has_failed : Bool
  pub front : Front
  pub memory : M

-- the state of each log, by its number
abbrev pub log_states : {M : Type 0} {R : Type 0} → (R → Option (List ℕ)) → (R → Bool) → List (Log R M) → ℕ → Option (LogState M)
log_states left is_marked logs k =
    option_map (λ log. record { left = left log.reader; has_failed = is_marked log.reader; front = log.front; memory = log.memory }) (slice_get logs k)

-- the state of the writer: the bytes written, if they are known, and whether a write failed
pub record Output : Type 0 where
  pub written : Option (List ℕ)
  pub has_failed : Bool

abbrev pub output : Option (List ℕ) → Bool → Output
output written has_failed = record { written = written; has_failed = has_failed }

-- nothing was read of a log, of whose lines this is known
abbrev pub IsNew : {M : Type 0} → M → Option (LogState M) → Type 0
IsNew memory None = ⊤
IsNew memory (Some log) =
    (log.has_failed ≡ false) × (log.front.buffer ≡ []) × (log.front.is_ended ≡ false) × (log.front.place ≡ first_place)
    × (log.memory ≡ memory)

-- nothing was read of any log, of whose lines these are known
abbrev pub AreNew : {M : Type 0} {R : Type 0} → (ℕ → M) → (R → Option (List ℕ)) → (R → Bool) → List (Log R M) → Type 0
AreNew memories left is_marked logs = (k : ℕ) → IsNew (memories k) (log_states left is_marked logs k)

-- what is known of the lines of each log before its first one
abbrev pub first_memories : {M : Type 0} → (ℕ → LogReading M) → ℕ → M
first_memories readings k = (readings k).memory

-- these bytes were read of a log
abbrev pub IsRead : {M : Type 0} → Option (LogState M) → Option (LogState M) → List ℕ → Type 0
IsRead None None bytes = bytes ≡ []
IsRead None (Some new) bytes = ⊥
IsRead (Some old) None bytes = ⊥
IsRead (Some old) (Some new) bytes = Consumes old.left new.left bytes

-- these bytes were read of each log
abbrev pub AreRead : {M : Type 0} → (ℕ → Option (LogState M)) → (ℕ → Option (LogState M)) → (ℕ → List ℕ) → Type 0
AreRead old new bytes = (k : ℕ) → IsRead (old k) (new k) (bytes k)

-- a log was read to its end, no read of it failed, and its first line that goes back, its lines without a stamp, and what is remembered
-- of all are known
abbrev pub IsDone : {M : Type 0} → LogReading M → Option (LogState M) → Option (LogState M) → List ℕ → Type 0
IsDone reading None None bytes = ⊤
IsDone reading None (Some new) bytes = ⊥
IsDone reading (Some old) None bytes = ⊥
IsDone reading (Some old) (Some new) bytes =
    IsAtEndAfter old.left new.left × (new.has_failed ≡ false) × (new.front.place.back ≡ first_back (log_lines reading bytes))
    × (new.front.place.stamps ≡ stamp_tally (log_lines reading bytes))
    × (new.memory ≡ (reading_after_lines reading (log_lines reading bytes)).memory)

-- a log has failed, or has not
abbrev pub HasFailed : {M : Type 0} → Bool → Option (LogState M) → Type 0
HasFailed has_failed None = ⊥
HasFailed has_failed (Some log) = log.has_failed ≡ has_failed

-- lines of which none is earlier than the one before in its log
abbrev pub NoneBack : List (ℕ × Line) → Type 0
NoneBack out = All (λ line. line.1.is_back ≡ false) out

-- these lines are the merge of these bytes
abbrev pub Merges : {M : Type 0} → (ℕ → LogReading M) → (ℕ → List ℕ) → List (ℕ × Line) → Type 0
Merges readings bytes out = IsMerge (λ k. log_lines (readings k) (bytes k)) out

-- all of each log was read, and exactly their merge was written. If the merge is strict, no line is earlier than the one before in its log
pub record IsMerged {M : Type 0} (readings : ℕ → LogReading M) (is_strict : Bool) (old new : ℕ → Option (LogState M)) (before after : Output) : Type 0 where
  pub bytes : ℕ → List ℕ
  pub out : List (ℕ × Line)
  pub read : AreRead old new bytes
  pub done : (k : ℕ) → IsDone (readings k) (old k) (new k) (bytes k)
  pub merge : Merges readings bytes out
  pub written : Appends before.written after.written (merge_text out)
  pub forward : is_strict ≡ true → NoneBack out
  pub no_write_failed : after.has_failed ≡ false

-- a read of a log failed. Exactly the lines of the merge up to its last line, which may not be whole, were written
pub record IsCutByRead {M : Type 0} (k : ℕ) (readings : ℕ → LogReading M) (old new : ℕ → Option (LogState M)) (before after : Output) : Type 0 where
  pub bytes : ℕ → List ℕ
  pub out : List (ℕ × Line)
  pub rest : List (ℕ × Line)
  pub read : AreRead old new bytes
  pub merge : Merges readings bytes (out ++ rest)
  pub written : Appends before.written after.written (merge_text out)
  pub last : All (λ line. line.is_ended ≡ false) (own_lines k rest)
  pub read_failed : HasFailed true (new k)
  pub no_write_failed : after.has_failed ≡ false

-- a write failed: a beginning of the merge of the bytes that were read was written, and not all
pub record IsCutByWrite {M : Type 0} (readings : ℕ → LogReading M) (old new : ℕ → Option (LogState M)) (before after : Output) : Type 0 where
  pub bytes : ℕ → List ℕ
  pub out : List (ℕ × Line)
  pub read : AreRead old new bytes
  pub merge : Merges readings bytes out
  pub written : AppendsBeginning before.written after.written (merge_text out)
  pub write_failed : after.has_failed ≡ true

-- the next line of a log is earlier than the one before it. Exactly the lines of the merge up to a line before that were written, and
-- none of them is earlier than the one before in its log
pub record IsCutByBack {M : Type 0} (k number : ℕ) (readings : ℕ → LogReading M) (old new : ℕ → Option (LogState M)) (before after : Output) : Type 0 where
  pub bytes : ℕ → List ℕ
  pub out : List (ℕ × Line)
  pub rest : List (ℕ × Line)
  pub line : Line
  pub lines : List Line
  pub read : AreRead old new bytes
  pub merge : Merges readings bytes (out ++ rest)
  pub written : Appends before.written after.written (merge_text out)
  pub forward : NoneBack out
  pub next : own_lines k rest ≡ line ∷ lines
  pub back : line.is_back ≡ true
  pub number_is : line.number ≡ number
  pub no_write_failed : after.has_failed ≡ false

-- a log has 2^64 - 1 bytes at least, or the merge has that number of lines: some of it was written
pub record IsEndless {M : Type 0} (readings : ℕ → LogReading M) (old new : ℕ → Option (LogState M)) (before after : Output) : Type 0 where
  pub bytes : ℕ → List ℕ
  pub out : List (ℕ × Line)
  pub read : AreRead old new bytes
  pub merge : Merges readings bytes out
  pub written : AppendsFront before.written after.written (merge_text out)
  pub long : ((k : ℕ) × (2 ^ 64 - 1 ≤ length (bytes k))) ⊎ (2 ^ 64 - 1 ≤ length out)

-- the end of a merge, by the fault that ended it
abbrev pub IsCut : {M : Type 0} → MergeFault → (ℕ → LogReading M) → Bool → (ℕ → Option (LogState M)) → (ℕ → Option (LogState M)) → Output → Output → Type 0
IsCut (Read k) readings is_strict old new before after = IsCutByRead k readings old new before after
IsCut Write readings is_strict old new before after = IsCutByWrite readings old new before after
IsCut (Back k number) readings is_strict old new before after = (is_strict ≡ true) × IsCutByBack k number readings old new before after
IsCut Endless readings is_strict old new before after = IsEndless readings old new before after

abbrev pub Ends : {M : Type 0} → Result Unit MergeFault → (ℕ → LogReading M) → Bool → (ℕ → Option (LogState M)) → (ℕ → Option (LogState M)) → Output → Output
    → Type 0
Ends (Ok done) readings is_strict old new before after = IsMerged readings is_strict old new before after
Ends (Err fault) readings is_strict old new before after = IsCut fault readings is_strict old new before after
