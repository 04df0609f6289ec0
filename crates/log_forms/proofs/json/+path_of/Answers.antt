use Rattle.std.proofs.Common.{rules, ◌≡◌, ◌≢◌, ◌∙◌, ◌+◌, ◌-◌, true, drop, option_map, arith, List, ℕ, Bor}
use Rattle.log_forms.specs.Json.{path_of}
use Rattle.log_forms.proofs.PathLemmas.{path_found, path_on}
use Rattle.log_forms.proofs.json.+path_of.Goals as goal

pub returns-in-Some-clause-value : goal.returns-in-Some-clause-value
returns-in-Some-clause-value t c =
    path_found c.args.levels c.args.is_inner c.args.path.now c.args.text.now c.in-Some.found.now c.in-Some.ensures.value

pub returns-in-Some-value_of-clause-value : goal.returns-in-Some-value_of-clause-value
returns-in-Some-value_of-clause-value t c =
    let count = c.in-Some-before_point.count in
    let object = c.in-Some-value_of.object.now in
    let some : c.args.levels ≢ 0 = omega (arith, c.if-levels-eq0.false) in
    let inner : option_map (λ (rest : Bor (List ℕ)). rest.now) c.path_of.result
    ≡ path_of (c.args.levels - 1) true (drop (count + 1) c.args.path.now) object = search rules in
    inner
    ∙ path_on c.args.levels c.args.is_inner c.args.path.now c.args.text.now count object some
    c.in_default.ensures.value c.in-Some-before_point.ensures.value c.in-Some-value_of.ensures.value
