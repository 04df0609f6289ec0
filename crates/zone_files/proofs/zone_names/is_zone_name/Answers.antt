use Rattle.std.proofs.Common.{rules, ◌∙◌, sym, subst, below_more}
use Rattle.std.specs.Prelude.{IsTrue}
use Rattle.zone_files.specs.Blocks.{byte_at}
use Rattle.zone_files.specs.ZoneNames.{byte_before, may_follow}
use Rattle.zone_files.proofs.zone_names.is_zone_name.Goals as goal

pub bytes-preserved : goal.bytes-preserved
bytes-preserved c = record {
  follows =
      below_more (λ k. IsTrue (may_follow (byte_before c.args.text.now k) (byte_at c.args.text.now k))) c.bytes.k c.bytes.invariant.follows
      (subst (λ before. IsTrue (may_follow before (byte_at c.args.text.now c.bytes.k))) c.bytes.invariant.before
      (sym c.may_follow.ensures ∙ c.if-not-may_follow.false));
  before = search rules;
}
