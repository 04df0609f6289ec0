use Rattle.std.proofs.Common.{ap, ◌∙◌, arith, drop, length}
use Rattle.std.proofs.lemmas.List.{drop-drop, length-drop, length-take}
use Rattle.stamps.proofs.lines.keep_text.Goals as goal

pub returns-clause-kept : goal.returns-clause-kept
returns-clause-kept g c =
    let rest = c.rest_of-rest.ensures ∙ ap (drop c.args.count) c.rest_of-behind.ensures ∙ drop-drop c.args.count c.args.start c.args.line.now in
    rw rest at c.keep_line.ensures.kept

pub rest_of-behind-requires : goal.rest_of-behind-requires
rest_of-behind-requires g c = omega (arith, c.requires)

pub rest_of-rest-requires : goal.rest_of-rest-requires
rest_of-rest-requires g c = omega (arith, c.requires, ap length c.rest_of-behind.ensures, length-drop c.args.start c.args.line.now)

pub slice_bounds-keep_line-end : goal.slice_bounds-keep_line-end
slice_bounds-keep_line-end g c = omega (arith, c.requires, length-take c.args.start c.args.line.now)
