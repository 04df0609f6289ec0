use Rattle.std.proofs.Common.{◌∙◌}
use Rattle.local_texts.specs.LocalForms.{time_on_date, time_and_offset}
use Rattle.local_texts.proofs.ReadingLemmas.{reading_as-spelled, reading_as-value, reading_as-syntax, reading_as-accepted}
use Rattle.local_texts.proofs.full_times.parse_time_with_offset.Goals as goal

pub returns-clause-value : goal.returns-clause-value
returns-clause-value c =
    λ p. λ h. reading_as-value time_and_offset (time_on_date c.args.text.now) c.read_time_with_offset.result p c.read_time_with_offset.ensures h

pub returns-clause-syntax : goal.returns-clause-syntax
returns-clause-syntax c = rw c.read_time_with_offset.ensures (reading_as-syntax time_and_offset (time_on_date c.args.text.now))

pub returns-clause-accepted : goal.returns-clause-accepted
returns-clause-accepted c = rw c.read_time_with_offset.ensures (reading_as-accepted time_and_offset (time_on_date c.args.text.now))

pub returns-clause-equation : goal.returns-clause-equation
returns-clause-equation c =
    λ p. λ h. c.read_time_with_offset.ensures ∙ reading_as-spelled time_and_offset (time_on_date c.args.text.now) p h
