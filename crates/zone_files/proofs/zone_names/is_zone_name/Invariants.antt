use Rattle.std.proofs.Common.{◌≡◌, ◌<◌, ℕ}
use Rattle.std.specs.Prelude.{IsTrue}
use Rattle.zone_files.specs.Blocks.{byte_at}
use Rattle.zone_files.specs.ZoneNames.{byte_before, may_follow}
use Rattle.zone_files.proofs.zone_names.is_zone_name.Given as goal

-- each byte so far may follow the one before it
abbrev pub invariant-bytes : goal.invariant-bytes
invariant-bytes l = record {
  follows : (j : ℕ) → j < l.k → IsTrue (may_follow (byte_before l.text j) (byte_at l.text j));
  before : l.before ≡ byte_before l.text l.k;
}
