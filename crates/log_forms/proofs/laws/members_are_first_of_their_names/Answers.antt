use Rattle.std.proofs.Common.{sym, false, ◌++◌}
use Rattle.log_forms.specs.Json.{value_text}
use Rattle.log_forms.proofs.JsonLemmas.{finds-outer, first-outer}
use Rattle.log_forms.proofs.JsonPathLemmas.{name-none, path-there}
use Rattle.log_forms.proofs.PathLemmas.{path_found}
use Rattle.log_forms.proofs.laws.members_are_first_of_their_names.Goals as goal

pub returns-clause-first : goal.returns-clause-first
returns-clause-first c = λ name front text rest members member n b o f.
    sym (path_found 7 false name (front ++ (text ++ rest)) (value_text member.value) (sym (first-outer b o name member n f)))

pub returns-clause-path : goal.returns-clause-path
returns-clause-path c = λ path front text rest value members b e o l. sym (path-there l false (front ++ (text ++ rest)) (finds-outer b e o))

pub returns-clause-none : goal.returns-clause-none
returns-clause-none c = λ name front text rest members n no_point b e o others. name-none (finds-outer b e o) 7 name n no_point others
