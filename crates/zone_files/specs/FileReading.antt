-- Reading the file of a time zone from its first byte on, with the first fault that is met.
use Rattle.std.specs.Prelude.{ℕ, zero, suc, ◌+◌, ◌*◌, ◌-◌, ◌==◌, ◌||◌, nat_lt, Bool, true, false, List, [], ◌∷◌, length, drop}
use Rattle.std.specs.Prelude.{Option, Some, None, Result, Ok, Err, if◌then◌else◌}
use Rattle.std.specs.Result.{result_map_both}
use Rattle.calendar_values.specs.Offsets.{least_offset, greatest_offset}
use Rattle.calendar_values.specs.Range.{is_outside}
use Rattle.zone_files.specs.Blocks.{BlockParts, byte_at, signed_word_at, file_stop, header_at, block_at}
use Rattle.zone_files.specs.Pieces.{front, past, is_line}
use Rattle.zone_files.specs.Reading.{◌>>=◌, rule_in}
use Rattle.zone_files.specs.Rules.{RuleParts}
use Rattle.zone_files.specs.declared.counts.Counts.{Counts}
use Rattle.zone_files.specs.declared.file_faults.FilePart.{FilePart}
use Rattle.zone_files.specs.declared.file_faults.FilePart.TheVariants.{Length, Version, Count, Offset, Daylight, Designation, Names, Index, Footer, Rule}
use Rattle.zone_files.specs.declared.file_faults.FileStop.{FileStop}
use Rattle.zone_files.specs.declared.file_faults.FileRefusal.{FileRefusal}

-- the parts of a file: whether its seconds have eight bytes or four, how many kinds of local time it has, its block, and its rule
pub record FileParts : Type 0 where
  pub wide : Bool
  pub count : ℕ
  pub block : BlockParts
  pub rule : Option RuleParts

-- the bytes of a second
abbrev pub size_of : Bool → ℕ
size_of wide = if wide then 8 else 4

-- a fault where so many bytes of the file are left
abbrev pub fault_left : FilePart → ℕ → Option FileStop
fault_left part left = Some (record { part = part; left = left })

-- the first of two faults
abbrev pub fault_or : Option FileStop → Option FileStop → Option FileStop
fault_or None other = other
fault_or (Some stop) other = Some stop

-- the first fault of n, from the one at k on
abbrev pub first_fault : (ℕ → Option FileStop) → ℕ → ℕ → Option FileStop
first_fault fault zero k = None
first_fault fault (suc n) k = fault_or (fault k) (first_fault fault n (k + 1))

-- a transition leads to a kind of local time; so many bytes are left where the indexes of the kinds begin
abbrev pub index_fault : ℕ → ℕ → List ℕ → ℕ → Option FileStop
index_fault left count indexes i = if nat_lt (byte_at indexes i) count then None else fault_left Index (left - i)

-- a kind of local time: its offset, the mark of daylight saving time, and where its abbreviation begins
abbrev pub kind_fault : ℕ → BlockParts → ℕ → Option FileStop
kind_fault left block k =
    if is_outside least_offset greatest_offset (signed_word_at block.types (6 * k)) then fault_left Offset (left - 6 * k)
    else (if nat_lt 1 (byte_at block.types (6 * k + 4)) then fault_left Daylight (left - (6 * k + 4))
    else (if nat_lt (byte_at block.types (6 * k + 5)) (length block.names) then None else fault_left Designation (left - (6 * k + 5))))

-- the abbreviations end with a zero byte
abbrev pub names_fault : ℕ → List ℕ → Option FileStop
names_fault left names =
    if byte_at names (length names - 1) == 0 then None else fault_left Names (left - (length names - 1))

-- the first fault in the bytes of a block, at whose beginning so many bytes are left
unfoldable pub bytes_fault : ℕ → ℕ → BlockParts → Option FileStop
bytes_fault left count block =
    fault_or (first_fault (index_fault (left - length block.times) count block.indexes) (length block.indexes) 0)
    (fault_or (first_fault (kind_fault (left - length block.times - length block.indexes) block) count 0)
    (names_fault (left - length block.times - length block.indexes - length block.types) block.names))

-- and before them that of its counts
unfoldable pub block_fault : ℕ → ℕ → BlockParts → Option FileStop
block_fault left count block =
    if (count == 0) || (length block.names == 0) then fault_left Count left else bytes_fault left count block

-- a value, unless there is a fault
abbrev pub unless : {A : Type 0} → Option FileStop → A → Result A FileStop
unless None value = Ok value
unless (Some stop) value = Err stop

-- the rule of a line, where so many bytes are left at its beginning; an empty line has none
abbrev pub line_rule : ℕ → List ℕ → Result (Option RuleParts) FileStop
line_rule left [] = Ok None
line_rule left (byte ∷ bytes) =
    result_map_both (λ rule. Some rule) (λ stop. record { part = Rule stop.fault; left = left - (length (byte ∷ bytes) - stop.left) })
    (rule_in (byte ∷ bytes))

-- the line of a rule, which a new line ends
unfoldable pub line_at : List ℕ → Result (Option RuleParts) FileStop
line_at bytes = if length (past is_line bytes) == 0 then Err (file_stop Length []) else line_rule (length bytes) (front is_line bytes)

-- the rule between two new lines; what follows them is not read
abbrev pub footer_at : List ℕ → Result (Option RuleParts) FileStop
footer_at [] = Err (file_stop Length [])
footer_at (byte ∷ bytes) = if byte == 10 then line_at bytes else Err (file_stop Footer (byte ∷ bytes))

-- a file of version 1 after its header: one block, and no rule
unfoldable pub first_version : Counts → List ℕ → Result FileParts FileStop
first_version counts bytes = do
  block ← block_at 4 counts bytes
  unless (block_fault (length bytes) counts.types block.0) (record { wide = false; count = counts.types; block = block.0; rule = None })

-- a later version after its second header: a block with seconds of eight bytes, and the rule
unfoldable pub later_block : Counts → List ℕ → Result FileParts FileStop
later_block counts bytes = do
  block ← block_at 8 counts bytes
  sound ← unless (block_fault (length bytes) counts.types block.0) block.0
  rule ← footer_at block.1
  Ok (record { wide = true; count = counts.types; block = sound; rule = rule })

-- a later version after its first header: a block that is passed over, and the second header, of the same version
unfoldable pub later_version : Counts → List ℕ → Result FileParts FileStop
later_version first bytes = do
  passed ← block_at 4 first bytes
  second ← header_at passed.1
  if second.0.version == first.version then later_block second.0 second.1 else Err (file_stop Version (drop 4 passed.1))

-- the parts of a file, or its first fault
unfoldable pub file_in : List ℕ → Result FileParts FileStop
file_in bytes = do
  first ← header_at bytes
  if first.0.version == 0 then first_version first.0 first.1 else later_version first.0 first.1

-- a fault, at the index of its byte
abbrev pub file_refusal : List ℕ → FileStop → FileRefusal
file_refusal bytes stop = record { part = stop.part; place = length bytes - stop.left }

unfoldable pub file_of : List ℕ → Result FileParts FileRefusal
file_of bytes = result_map_both (λ file. file) (file_refusal bytes) (file_in bytes)
