use Rattle.std.proofs.Common.{◌∙◌}
use Rattle.calendar_values.specs.WallClock.{wall_time}
use Rattle.local_texts.specs.LocalForms.{time_in_utc}
use Rattle.local_texts.proofs.ReadingLemmas.{reading_as-spelled, reading_as-value, reading_as-syntax, reading_as-accepted}
use Rattle.local_texts.proofs.readings.parse_time.Goals as goal

pub returns-clause-value : goal.returns-clause-value
returns-clause-value c = λ p. λ h. reading_as-value (λ at. wall_time at.wall) (time_in_utc c.args.text.now) c.read_time.result p c.read_time.ensures h

pub returns-clause-syntax : goal.returns-clause-syntax
returns-clause-syntax c = rw c.read_time.ensures (reading_as-syntax (λ at. wall_time at.wall) (time_in_utc c.args.text.now))

pub returns-clause-accepted : goal.returns-clause-accepted
returns-clause-accepted c = rw c.read_time.ensures (reading_as-accepted (λ at. wall_time at.wall) (time_in_utc c.args.text.now))

pub returns-clause-equation : goal.returns-clause-equation
returns-clause-equation c = λ p. λ h. c.read_time.ensures ∙ reading_as-spelled (λ at. wall_time at.wall) (time_in_utc c.args.text.now) p h
