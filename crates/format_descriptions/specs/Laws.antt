-- The texts that the known descriptions write, in the words of the texts that were proved before.
use Rattle.std.specs.Prelude.{◌≡◌, ◌==◌, ℕ, ℤ, false, unsigned_abs}
use Rattle.calendar_values.specs.Texts.{date_text, time_text, offset_text}
use Rattle.offset_times.specs.Local.{Local, local_in_utc}
use Rattle.rfc3339.specs.Texts.{HasText, HasFixedText, fixed_text, fixed_text_at}
use Rattle.format_descriptions.specs.Written.{items_text, described_text}
use Rattle.format_descriptions.specs.Known.{date_items, time_items, offset_items, fixed_items, fixed_items_at}

-- `[year]-[month]-[day]`, `[hour padding:none]:[minute]:[second].[subsecond]` and
-- `[offset_hour sign:mandatory]:[offset_minute]:[offset_second]` write the texts of `Display`
pub record DisplaysAreDescriptions : Type 0 where
  pub date : (day : ℤ) (clock : ℕ) (o : ℤ) → items_text date_items day clock o ≡ date_text day
  pub time : (day : ℤ) (clock : ℕ) (o : ℤ) → items_text time_items day clock o ≡ time_text clock
  pub offset : (day : ℤ) (clock : ℕ) (o : ℤ) → items_text offset_items day clock o ≡ offset_text o

-- the descriptions of nine digits write the texts of exchange of fixed width
pub record FixedTextsAreDescriptions : Type 0 where
  pub utc : (i : ℤ) → HasFixedText i → described_text fixed_items (local_in_utc i) ≡ fixed_text i
  pub elsewhere : (at : Local) → HasText at → (unsigned_abs at.offset == 0) ≡ false → described_text fixed_items_at at ≡ fixed_text_at at
