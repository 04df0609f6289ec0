-- The parts of a device, and the state of a reader and a writer together.
use Rattle.std.specs.Prelude.{ℕ, ◌-◌, ◌==◌, Bool, true, if◌then◌else◌, List, slice_get, Option, Some, None, Result, Ok, Err}
use Rattle.line_devices.specs.declared.devices.Device.{Device}

-- the reader or the writer
abbrev pub inner_of : {T : Type 0} → Device T → T
inner_of device = device.inner

-- the mark: a call failed
abbrev pub has_failed : {T : Type 0} → Device T → Bool
has_failed device = device.has_failed

-- whether a write failed because nothing reads the pipe
abbrev pub is_pipe_closed : {T : Type 0} → Device T → Bool
is_pipe_closed device = device.is_pipe_closed

-- the last byte that was written, if any was
abbrev pub last_of : {T : Type 0} → Device T → Option ℕ
last_of device = device.last

-- the last byte that was written after a write of the first bytes of a text; one of no byte, or a failed one, leaves it
abbrev pub last_after : {E : Type 0} → Result ℕ E → List ℕ → Option ℕ → Option ℕ
last_after (Ok count) text before = if count == 0 then before else slice_get text (count - 1)
last_after (Err fault) text before = before

-- whether a line starts after the last byte
abbrev pub is_at_start : Option ℕ → Bool
is_at_start None = true
is_at_start (Some byte) = byte == 10

-- the state of a reader and a writer: the bytes left to read and the bytes written, if known;
-- whether a read failed, and whether a write failed
pub record Devices : Type 0 where
  pub left : Option (List ℕ)
  pub written : Option (List ℕ)
  pub read_failed : Bool
  pub write_failed : Bool

-- the state with these four parts
abbrev pub devices : Option (List ℕ) → Option (List ℕ) → Bool → Bool → Devices
devices left written read_failed write_failed =
    record { left = left; written = written; read_failed = read_failed; write_failed = write_failed }
