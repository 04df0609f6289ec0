use Rattle.std.proofs.Common.{◌∙◌, ap, sym}
use Rattle.std.specs.Option.{option_map}
use Rattle.times_bench.specs.Requests.{Unix}
use Rattle.times_bench.proofs.RequestLemmas.{unix_request-number}
use Rattle.times_bench.proofs.requests.read_unix.Goals as goal

pub returns : goal.returns
returns c = ap (option_map Unix) c.parse_i64.ensures ∙ sym (unix_request-number c.args.words.now)
