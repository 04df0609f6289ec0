use Rattle.std.proofs.Common.{◌≡◌, ◌%◌, ◌==◌, arith}
use Rattle.std.specs.Prelude.{unsigned_abs}
use Rattle.std.proofs.lemmas.Bool.{and_parts}
use Rattle.std.proofs.lemmas.Bool.Decides.{nat_tests}
use Rattle.calendar_values.specs.Calendar.{year_of}
use Rattle.calendar_values.specs.WallClock.{wall_day, wall_time}
use Rattle.calendar_values.specs.WallClockLemmas.{IsClock-wall_time, IsDay-wall_day}
use Rattle.format_descriptions.specs.Read.{no_parts}
use Rattle.format_descriptions.specs.RoundTrips.{parts_of}
use Rattle.format_descriptions.specs.WellKnown.{is_mail_year, rfc2822_items}
use Rattle.format_descriptions.proofs.MailAgainLemmas.{mail_parts-there}
use Rattle.format_descriptions.proofs.MailValueLemmas.{mail_value-there, written-mail}
use Rattle.format_descriptions.proofs.laws.written_mail_is_read_back.Goals as goal

pub returns : goal.returns
returns c = λ at local mail.
    let day = wall_day at.wall in
    let clock = wall_time at.wall in
    let both = and_parts (is_mail_year (year_of day)) (unsigned_abs at.offset % 60 == 0) mail in
    let whole = both.1 in
    let minutes : unsigned_abs at.offset % 60 ≡ 0 = grind (arith, nat_tests) in
    let is_clock = IsClock-wall_time at.wall in (
      parts_of rfc2822_items day clock at.offset no_parts,
      mail_parts-there day clock at.offset (written-mail day clock at.offset both.0 is_clock local.1) both.0,
      mail_value-there day clock at.offset (IsDay-wall_day at.wall local.0) is_clock local.1 minutes,
    )
