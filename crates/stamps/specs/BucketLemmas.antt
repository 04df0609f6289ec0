-- The first bytes of a line decide on its instant, and on the form of the lines after it.
use Rattle.std.proofs.Common.{◌≡◌, ℕ, Bool, List, take, Option, ℤ}
use Rattle.line_devices.specs.declared.stamp_tallies.LineKind.{LineKind}
use Rattle.stamps.specs.Buckets.{counting}
use Rattle.stamps.specs.Changes.{reader_by}
use Rattle.stamps.specs.LineInstantLemmas.{line_instant-by_head}
use Rattle.stamps.specs.LogReadingLemmas.{choice_after-by_head}
use Rattle.stamps.specs.declared.changes.Choice.{Choice}
use Rattle.stamps.specs.declared.counts.ClockBuckets.{ClockBuckets}

pub counting-by_head : (buckets : ClockBuckets) (choice : Choice) (last : Option ℤ) (is_first : Bool) (line : List ℕ)
    → (counting buckets).instant choice last is_first (take 65536 line) ≡ (counting buckets).instant choice last is_first line
counting-by_head buckets choice last is_first line =
    line_instant-by_head (reader_by buckets.anew choice.own buckets.reader) last is_first line

pub counting-remembers_head : (buckets : ClockBuckets) (choice : Choice) (number : ℕ) (kind : LineKind) (line : List ℕ)
    → (counting buckets).after choice number kind (take 65536 line) ≡ (counting buckets).after choice number kind line
counting-remembers_head buckets choice number kind line = choice_after-by_head buckets.anew choice number kind line
