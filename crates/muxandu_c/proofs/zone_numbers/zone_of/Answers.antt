use Rattle.std.proofs.Common.{rules, refl, inr}
use Rattle.muxandu_c.proofs.zone_numbers.zone_of.Goals as goal

pub returns-in-Ok-new : goal.returns-in-Ok-new
returns-in-Ok-new c = record {
  first = c.in-Some.first;
  rows = c.args.rows.now;
  rule = c.in-Ok.rule;
  parts = record {
    few = c.requires.few;
    first_is = record {
      offset_is = search (rules, c.in-Some.ensures.some.offset_is);
      designation_is = c.in-Some.ensures.some.designation_is;
      mark_is = c.in-Some.ensures.some.mark_is;
    };
    rows_are = c.requires.rows;
    rule_is = c.in-Ok.ensures;
  };
  is_zone = c.in-Ok-new.ensures;
}

pub returns-in-Err-new : goal.returns-in-Err-new
returns-in-Err-new c = (
  refl,
  inr (record {
    first = c.in-Some.first;
    rows = c.args.rows.now;
    rule = c.in-Ok.rule;
    fault = c.in-Err-new.field-0;
    parts = record {
      few = c.requires.few;
      first_is = record {
        offset_is = search (rules, c.in-Some.ensures.some.offset_is);
        designation_is = c.in-Some.ensures.some.designation_is;
        mark_is = c.in-Some.ensures.some.mark_is;
      };
      rows_are = c.requires.rows;
      rule_is = c.in-Ok.ensures;
    };
    is_fault = c.in-Err-new.ensures;
  }),
)
