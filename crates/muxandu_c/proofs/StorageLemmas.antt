-- A value has a text exactly where the check of its parts succeeds.
use Rattle.std.proofs.Common.{◌≡◌, ◌||◌, Bool, true, false, Result, Ok, Err, refl}
use Rattle.std.specs.Prelude.{if◌then◌else◌}
use Rattle.offset_times.specs.Local.{Local}
use Rattle.rfc3339.specs.Texts.{rfc3339_text}
use Rattle.muxandu_c.specs.Answers.{and_then, status_of}
use Rattle.muxandu_c.specs.Exchange.{year_has_no_text, offset_has_no_text, rfc3339_of, date_time_to_rfc3339}
use Rattle.muxandu_c.specs.Storage.{date_time_with_text}
use Rattle.muxandu_c.specs.Values.{date_time_value}
use Rattle.muxandu_c.specs.declared.refused.Refused.{Refused}
use Rattle.muxandu_c.specs.declared.refused.Refused.TheVariants as refused
use Rattle.muxandu_c.specs.declared.values.MuxanduDateTime.{MuxanduDateTime}

-- two answers that fail by one test have one status
by_one_test : {A B : Type 0} (fails : Bool) (a : A) (b : B)
    → status_of (if fails then Err refused.NoText else Ok a) ≡ status_of (if fails then Err refused.NoText else Ok b)
by_one_test true a b = refl
by_one_test false a b = refl

after_parts : (v : MuxanduDateTime) (answer : Result Local Refused)
    → status_of (and_then answer (λ at. if year_has_no_text at.wall || offset_has_no_text at.offset then Err refused.NoText else Ok v))
    ≡ status_of (and_then answer rfc3339_of)
after_parts v (Ok at) = by_one_test (year_has_no_text at.wall || offset_has_no_text at.offset) v (rfc3339_text at)
after_parts v (Err refusal) = refl

pub status-date_time_with_text : (v : MuxanduDateTime) → status_of (date_time_with_text v) ≡ status_of (date_time_to_rfc3339 v)
status-date_time_with_text v = after_parts v (date_time_value v)

-- a text where the parts have one
pub ruleset texts = (status-date_time_with_text)
