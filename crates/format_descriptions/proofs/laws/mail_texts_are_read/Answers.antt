use Rattle.std.proofs.Common.{refl}
use Rattle.rfc3339.specs.Reading.{digit_at, two_digits_at, mark_at}
use Rattle.format_descriptions.specs.Names.{month_of_number, weekday_of_number}
use Rattle.format_descriptions.specs.Read.{component_at, agrees, with_part}
use Rattle.format_descriptions.specs.Reading.{two_at, sign_at, signed_hours_at, letter_at, word_at, month_at, weekday_at}
use Rattle.format_descriptions.specs.Rfc2822.{past_blanks, are_comments, mail_year_at, named_zone_at, mail_zone_at, mail_front}
use Rattle.format_descriptions.proofs.MailLemmas.{mail_year_at-years}
use Rattle.format_descriptions.proofs.laws.mail_texts_are_read.Goals as goal

pub returns : goal.returns
unfolding digit_at two_digits_at mark_at component_at agrees with_part two_at sign_at signed_hours_at letter_at word_at month_at weekday_at
    past_blanks are_comments mail_year_at named_zone_at mail_zone_at mail_front month_of_number weekday_of_number
returns c = record {
  years = mail_year_at-years;
  y1900 = refl;
  y9999 = refl;
  y49 = refl;
  y50 = refl;
  y1899 = refl;
  three_digits = refl;
  five_digits = refl;
  after_a_sign = refl;
  gmt = refl;
  ut = refl;
  utc = refl;
  est = refl;
  edt = refl;
  cst = refl;
  cdt = refl;
  mst = refl;
  mdt = refl;
  pst = refl;
  pdt = refl;
  zulu = refl;
  no_j = refl;
  no_longer_name = refl;
  whole = refl;
  spaced = refl;
  named = refl;
  signed_year = refl;
  no_comma = refl;
  more = refl;
}
