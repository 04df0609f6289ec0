use Rattle.rfc3339.proofs.SuffixLemmas.{date_time_ext-parts, date_time_ext-cut, date_time_ext-one, date_time_ext-front}
use Rattle.rfc3339.proofs.laws.suffixes_are_cut_off.Goals as goal

pub returns : goal.returns
returns c = record { parts = date_time_ext-parts; cut = date_time_ext-cut; one = date_time_ext-one; front = date_time_ext-front }
