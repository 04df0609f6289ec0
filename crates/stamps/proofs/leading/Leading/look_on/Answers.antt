use Rattle.std.proofs.Common.{◌∙◌, refl}
use Rattle.stamps.proofs.LeadingLemmas.{stands_longer}
use Rattle.stamps.proofs.leading.Leading.look_on.Goals as goal

pub lines-init : goal.lines-init
lines-init c = record { chooses = refl; stands = λ first old more is h. rw is (stands_longer c.args.reader.now first old more c.args.self.now h) }

pub lines-preserved : goal.lines-preserved
lines-preserved c = record {
  chooses = c.pass.ensures.chooses ∙ c.lines.invariant.chooses;
  stands = λ first old more is h. c.pass.ensures.stands first c.lines-test.true (c.lines.invariant.stands first old more is h);
}
