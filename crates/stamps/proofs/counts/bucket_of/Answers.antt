use Rattle.stamps.proofs.BucketProofLemmas.{bucket_out_of_range, bucket_shown}
use Rattle.stamps.proofs.counts.bucket_of.Goals as goal

pub returns-in-Some : goal.returns-in-Some
returns-in-Some c =
    bucket_shown c.args.clock.now c.args.at c.in-Some.shown c.checked_to_utc.result c.in-Some.ensures.value
    (rw c.truncate.ensures at c.checked_to_utc.ensures)

pub returns-in-None : goal.returns-in-None
returns-in-None c = bucket_out_of_range c.args.clock.now c.args.at c.in-None.ensures.value
