use Rattle.stamps.proofs.BucketLawLemmas.{bucket-has}
use Rattle.stamps.proofs.laws.buckets_have_their_instants.Goals as goal

pub returns : goal.returns
returns c = bucket-has
