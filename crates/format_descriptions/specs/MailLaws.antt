-- What the reading of RFC 2822 means: its years, its zones and a whole text. What is written is read back.
use Rattle.std.specs.Prelude.{◌≡◌, ℕ, ◌-◌, true, false, List, [], codes, Some, None, Ok, Err, pos, IsTrue}
use Rattle.calendar_values.specs.Clock.{nanosecond_of}
use Rattle.calendar_values.specs.WallClock.{wall_clock, wall_day, wall_time}
use Rattle.offset_times.specs.Local.{Local, IsLocal, wall_at}
use Rattle.format_descriptions.specs.DateTimeValues.{local_of_parts}
use Rattle.format_descriptions.specs.Read.{no_parts}
use Rattle.format_descriptions.specs.Rfc2822.{mail_year_at, mail_zone_at, mail_parts}
use Rattle.format_descriptions.specs.WellKnown.{is_mail_year, has_rfc2822_text, rfc2822_items}
use Rattle.format_descriptions.specs.Written.{described_text}
use Rattle.format_descriptions.specs.declared.parts.Parts.{Parts}
use Rattle.format_descriptions.specs.declared.value_refusal.Field.TheVariants as field

-- the parts of Friday, 21 November 1997, 9:55:06 at -06:00
abbrev pub november : Parts
november = record no_parts {
  weekday = Some 4;
  day = Some 21;
  month = Some 11;
  year = Some (pos 1_997);
  hour = Some 9;
  minute = Some 55;
  second = Some 6;
  is_west = Some true;
  offset_hour = Some 6;
  offset_minute = Some 0;
}

-- the same at a zone by its name
abbrev pub november_named : Parts
november_named = record november { weekday = None; offset_second = Some 0 }

-- years of four digits and of two, and what is no year; the zones by their names; white space, comments and faults
pub record MailTextsAreRead : Type 0 where
  pub years : (text rest : List ℕ) (n : ℕ) → mail_year_at text ≡ Some (n, rest) → IsTrue (is_mail_year (pos n))
  pub y1900 : mail_year_at (codes "1900 ") ≡ Some (1_900, codes " ")
  pub y9999 : mail_year_at (codes "9999") ≡ Some (9_999, [])
  pub y49 : mail_year_at (codes "49") ≡ Some (2_049, [])
  pub y50 : mail_year_at (codes "50") ≡ Some (1_950, [])
  pub y1899 : mail_year_at (codes "1899") ≡ None
  pub three_digits : mail_year_at (codes "102") ≡ None
  pub five_digits : mail_year_at (codes "19970") ≡ None
  pub after_a_sign : mail_year_at (codes "+1997") ≡ None
  pub gmt : mail_zone_at (codes "GMT") ≡ Some ((false, 0), [])
  pub ut : mail_zone_at (codes "ut (GMT)") ≡ Some ((false, 0), codes " (GMT)")
  pub utc : mail_zone_at (codes "Utc") ≡ Some ((false, 0), [])
  pub est : mail_zone_at (codes "EST") ≡ Some ((true, 18_000), [])
  pub edt : mail_zone_at (codes "EDT") ≡ Some ((true, 14_400), [])
  pub cst : mail_zone_at (codes "CST") ≡ Some ((true, 21_600), [])
  pub cdt : mail_zone_at (codes "CDT") ≡ Some ((true, 18_000), [])
  pub mst : mail_zone_at (codes "MST") ≡ Some ((true, 25_200), [])
  pub mdt : mail_zone_at (codes "MDT") ≡ Some ((true, 21_600), [])
  pub pst : mail_zone_at (codes "PST") ≡ Some ((true, 28_800), [])
  pub pdt : mail_zone_at (codes "PDT") ≡ Some ((true, 25_200), [])
  pub zulu : mail_zone_at (codes "z") ≡ Some ((false, 0), [])
  pub no_j : mail_zone_at (codes "J") ≡ None
  pub no_longer_name : mail_zone_at (codes "ESTA") ≡ None
  pub whole : mail_parts (codes "Fri, 21 Nov 1997 09:55:06 -0600") ≡ Ok november
  pub spaced : mail_parts (codes "\tfri ,21  nov 97 09 :55: 06\t-0600 (a (b\\) c)) ") ≡ Ok november
  pub named : mail_parts (codes "21 Nov 1997 09:55:06 cst") ≡ Ok november_named
  pub signed_year : mail_parts (codes "21 Nov -1997 09:55 GMT") ≡ Err (Some field.Year, 15)
  pub no_comma : mail_parts (codes "Fri 21 Nov 1997") ≡ Err (None, 12)
  pub more : mail_parts (codes "21 Nov 1997 09:55:06 GMT (a) b") ≡ Err (None, 6)

-- a date-time without its fraction of a second
abbrev pub at_whole_second : Local → Local
at_whole_second at =
    wall_at (wall_clock (wall_day at.wall) (wall_time at.wall - nanosecond_of (wall_time at.wall))) at.offset

-- each date-time that has a text of RFC 2822 is read from it, without its fraction of a second
abbrev pub MailTextsReadBack : Type 0
MailTextsReadBack =
    (at : Local) → IsLocal at → IsTrue (has_rfc2822_text at)
    → (p : Parts) × (mail_parts (described_text rfc2822_items at) ≡ Ok p) × (local_of_parts p ≡ Ok (at_whole_second at))
