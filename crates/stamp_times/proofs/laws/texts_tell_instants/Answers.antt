use Rattle.stamp_times.proofs.TimestampTextLemmas.{timestamp_text-injective, timestamp_text-fraction_end, timestamp_text-not_zero}
use Rattle.stamp_times.proofs.laws.texts_tell_instants.Goals as goal

pub returns : goal.returns
returns c = record {
  distinct = timestamp_text-injective;
  no_zero_ends_a_fraction = timestamp_text-fraction_end;
  no_negative_zero = timestamp_text-not_zero;
}
