use Rattle.std.proofs.Common.{rules, arith}
use Rattle.std.proofs.lemmas.Bool.Decides.{nat_tests}
use Rattle.muxandu_c.proofs.FieldSpanLemmas.{is_quoted-short, is_quoted-other}
use Rattle.muxandu_c.proofs.field_spans.is_quoted.Goals as goal
use Rattle.muxandu_c.proofs.field_spans.is_quoted.Goals.{then-end-start-lt2-via-then-end-start-lt2, then-end-start-lt2-via-else-end-start-lt2+then-texts-start}

pub returns-then-end-start-lt2-clause-value : goal.returns-then-end-start-lt2-clause-value
returns-then-end-start-lt2-clause-value c =
    elim c.then-end-start-lt2.branch [
      | then-end-start-lt2-via-then-end-start-lt2 w ↦ is_quoted-short c.args.quote c.args.texts.now c.args.start c.args.end (search rules)
      | then-end-start-lt2-via-else-end-start-lt2+then-texts-start w ↦
          let other = w.if-texts-start.true in
          is_quoted-other c.args.quote c.args.texts.now c.args.start c.args.end 0 (search rules) c.requires.last (grind (arith, nat_tests))
    ]
