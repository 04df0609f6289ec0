use Rattle.std.proofs.Common.{◌∙◌}
use Rattle.local_texts.proofs.ReadingLemmas.{reading_at-own, reading_at-assumed, reading_at-syntax, reading_at-accepted}
use Rattle.local_texts.proofs.ReadingLemmas.{reading_at-spelled, reading_at-spelled_local}
use Rattle.local_texts.proofs.readings.parse_date_time_at.Goals as goal

pub returns-clause-own : goal.returns-clause-own
returns-clause-own c = λ p. λ h. reading_at-own c.args.assumed c.args.text.now c.read_date_time_at.result p c.read_date_time_at.ensures h

pub returns-clause-assumed : goal.returns-clause-assumed
returns-clause-assumed c = λ p. λ h. reading_at-assumed c.args.assumed c.args.text.now c.read_date_time_at.result p c.read_date_time_at.ensures h

pub returns-clause-syntax : goal.returns-clause-syntax
returns-clause-syntax c = rw c.read_date_time_at.ensures (reading_at-syntax c.args.assumed c.args.text.now)

pub returns-clause-accepted : goal.returns-clause-accepted
returns-clause-accepted c = rw c.read_date_time_at.ensures (reading_at-accepted c.args.assumed c.args.text.now)

pub returns-clause-own_equation : goal.returns-clause-own_equation
returns-clause-own_equation c = λ p. λ h. c.read_date_time_at.ensures ∙ reading_at-spelled c.args.assumed c.args.text.now p h

pub returns-clause-assumed_equation : goal.returns-clause-assumed_equation
returns-clause-assumed_equation c = λ p. λ h. c.read_date_time_at.ensures ∙ reading_at-spelled_local c.args.assumed c.args.text.now p h
