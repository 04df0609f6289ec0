-- Laws of texts of RFC 3339: a text that a call writes is read as the value that was written, and each value that the form has
-- is written. A function of `src/laws.rt` proves each of them.
use Rattle.std.specs.Prelude.{◌≡◌, ℕ, List, ℤ, Result, Ok, Err}
use Rattle.offset_times.specs.Local.{Local}
use Rattle.rfc3339.specs.FullDates.{IsFullDate, HasFullDate, full_date_text}
use Rattle.rfc3339.specs.Texts.{HasText, HasFixedText, rfc3339_text, fixed_text}
use Rattle.muxandu_c.specs.DateTexts.{date_to_rfc3339, date_spelled}
use Rattle.muxandu_c.specs.Exchange.{date_time_to_rfc3339, timestamp_to_rfc3339, timestamp_to_rfc3339_nanos, IsRead}
use Rattle.muxandu_c.specs.TextBatches.{date_time_read}
use Rattle.muxandu_c.specs.Values.{date_time_value, timestamp_value, day_from_date}
use Rattle.muxandu_c.specs.declared.refused.Refused.{Refused}
use Rattle.muxandu_c.specs.declared.refused.Refused.TheVariants as refused
use Rattle.muxandu_c.specs.declared.values.MuxanduDate.{MuxanduDate}
use Rattle.muxandu_c.specs.declared.values.MuxanduDateTime.{MuxanduDateTime}
use Rattle.muxandu_c.specs.declared.values.MuxanduTimestamp.{MuxanduTimestamp}

-- the text of a date-time, of a timestamp in its shortest form and with nine digits, and of a date is read as the value
pub record TextsReadBack : Type 0 where
  pub date_time : (v : MuxanduDateTime) (text : List ℕ) → date_time_to_rfc3339 v ≡ Ok text → date_time_read text ≡ Ok v
  pub timestamp : (v : MuxanduTimestamp) (text : List ℕ) (answer : Result MuxanduTimestamp Refused) → timestamp_to_rfc3339 v ≡ Ok text
      → IsRead text answer → answer ≡ Ok v
  pub nanoseconds : (v : MuxanduTimestamp) (text : List ℕ) (answer : Result MuxanduTimestamp Refused) → timestamp_to_rfc3339_nanos v ≡ Ok text
      → IsRead text answer → answer ≡ Ok v
  pub date : (v : MuxanduDate) (text : List ℕ) (year month day : ℕ) → date_to_rfc3339 v ≡ Ok text → IsFullDate text year month day
      → date_spelled year month day ≡ Ok v

-- a date-time, a timestamp and a date have a text exactly if their year has four digits, and the offset is one of whole minutes below a day
pub record TextsOfRange : Type 0 where
  pub date_time : (v : MuxanduDateTime) (at : Local) → date_time_value v ≡ Ok at → HasText at → date_time_to_rfc3339 v ≡ Ok (rfc3339_text at)
  pub no_date_time : (v : MuxanduDateTime) (at : Local) → date_time_value v ≡ Ok at → ¬ HasText at → date_time_to_rfc3339 v ≡ Err refused.NoText
  pub nanoseconds : (v : MuxanduTimestamp) (i : ℤ) → timestamp_value v ≡ Ok i → HasFixedText i → timestamp_to_rfc3339_nanos v ≡ Ok (fixed_text i)
  pub no_nanoseconds : (v : MuxanduTimestamp) (i : ℤ) → timestamp_value v ≡ Ok i → ¬ HasFixedText i → timestamp_to_rfc3339_nanos v ≡ Err refused.NoText
  pub date : (v : MuxanduDate) (n : ℤ) → day_from_date v ≡ Ok n → HasFullDate n → date_to_rfc3339 v ≡ Ok (full_date_text n)
  pub no_date : (v : MuxanduDate) (n : ℤ) → day_from_date v ≡ Ok n → ¬ HasFullDate n → date_to_rfc3339 v ≡ Err refused.NoText
