use Rattle.std.proofs.Common.{ℕ, List}
use Rattle.stamps.proofs.UsageLawLemmas.{misuse_found, misuse_is, request_found, request_is}
use Rattle.stamps.proofs.laws.words_ask_as_the_usage_says.Goals as goal
use Rattle.stamps.specs.declared.arguments.Misuse.{Misuse}
use Rattle.stamps.specs.declared.arguments.Request.{Request}

pub returns : goal.returns
returns c = record {
  request = λ (words : List (List ℕ)) (request : Request). (request_found words request, request_is words request);
  misuse = λ (words : List (List ℕ)) (misuse : Misuse). (misuse_found words misuse, misuse_is words misuse);
}
