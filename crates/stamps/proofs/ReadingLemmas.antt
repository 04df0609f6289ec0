-- Bytes behind others.
use Rattle.std.proofs.Common.{◌≡◌, ℕ, ◌≤◌, List, [], drop, length, sym}
use Rattle.std.proofs.lemmas.List.{drop_all}

-- no bytes stand behind all
pub none_behind : (word : List ℕ) (count : ℕ) → length word ≤ count → [] ≡ drop count word
none_behind word count past = sym (drop_all count word past)

pub ruleset behinds = (none_behind)
