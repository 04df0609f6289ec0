-- The exit status of a merge.
use Rattle.std.specs.Prelude.{ℕ, Bool, Result, Ok, Err, if◌then◌else◌}
use Rattle.line_merges.specs.declared.merges.MergeFault.{MergeFault}
use Rattle.line_merges.specs.declared.merges.MergeFault.TheVariants.{Read, Write, Back, Endless}

-- 1 if a log has a finding, or a line is earlier than the one before in its log, and 2 for an error
abbrev pub merge_status : Result Unit MergeFault → Bool → ℕ
merge_status (Ok done) is_found = if is_found then 1 else 0
merge_status (Err (Back log number)) is_found = 1
merge_status (Err (Read log)) is_found = 2
merge_status (Err Write) is_found = 2
merge_status (Err Endless) is_found = 2
