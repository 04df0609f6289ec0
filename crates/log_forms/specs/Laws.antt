-- Laws of forms. A function of `src/laws.rt` proves each of them.
use Rattle.std.specs.Prelude.{◌≡◌, ℕ, ◌+◌, ◌<◌, ◌≤◌, false, true, List, [], drop, length, take, ℤ, pos, ◌+ℤ◌, ◌-ℤ◌, ◌*ℤ◌, unsigned_abs}
use Rattle.std.specs.Prelude.{IsErr, Ok, Some, None, IsSomeAnd, IsTrue}
use Rattle.calendar_values.specs.Range.{IsDay, IsYear}
use Rattle.calendar_values.specs.WallClock.{IsInstant, wall_clock}
use Rattle.format_descriptions.specs.Read.{no_parts}
use Rattle.format_descriptions.specs.RoundTrips.{AreWritten, is_clear, parts_of}
use Rattle.format_descriptions.specs.ValueLaws.{tells_clock}
use Rattle.format_descriptions.specs.Values.{tells_date}
use Rattle.format_descriptions.specs.Written.{items_text}
use Rattle.format_descriptions.specs.declared.item.Item.{Item}
use Rattle.format_descriptions.specs.declared.parts.Parts.{Parts}
use Rattle.offset_times.specs.Local.{instant_of, wall_at}
use Rattle.log_forms.specs.Forms.{form_of}
use Rattle.log_forms.specs.Instants.{has_count, lacks_year, offset_known, with_year}
use Rattle.log_forms.specs.Ends.{begins_year, begins_zone, begins_zone_column, runs_on}
use Rattle.log_forms.specs.Fronts.{ends_with_zone}
use Rattle.log_forms.specs.Stamps.{longest_front, longest_stamp, stamp_at}
use Rattle.log_forms.specs.declared.form.Form.{Form}
use Rattle.log_forms.specs.declared.places.Place.{Place}
use Rattle.log_forms.specs.declared.instants.Assumed.{Assumed}
use Rattle.log_forms.specs.declared.places.Place.TheVariants.{Front}
use Rattle.log_forms.specs.declared.stamps.Stamp.{Stamp}

-- the parts of a text have a date and a time of day, and with what is assumed this offset
pub record TellInstant (assumed : Assumed) (p : Parts) (o : ℤ) : Type 0 where
  pub no_count : has_count p ≡ false
  pub year : lacks_year p ≡ false
  pub date : IsTrue (tells_date p)
  pub clock : IsTrue (tells_clock p)
  pub offset : offset_known assumed p ≡ Ok o

-- the instant of a day, a clock and an offset
abbrev pub instant_shown : ℤ → ℕ → ℤ → ℤ
instant_shown day clock o = instant_of (wall_at (wall_clock day clock) o)

-- a stamp that is the whole line
abbrev pub whole_stamp : ℤ → List ℕ → Stamp
whole_stamp instant text = record { instant = instant; start = 0; length = length text; is_zoned = false }

-- a date-time that clear items write is found again, with its instant, to the end of the text
abbrev pub FormTextsReadBack : Type 0
FormTextsReadBack =
    (items : List Item) (assumed : Assumed) (day : ℤ) (clock : ℕ) (o : ℤ) → IsTrue (is_clear items) → IsDay day → AreWritten day clock o
    → TellInstant assumed (parts_of items day clock o no_parts) o → IsInstant (instant_shown day clock o)
    → length (items_text items day clock o) ≤ longest_stamp
    → stamp_at (form_of items) Front [] assumed (items_text items day clock o)
    ≡ Ok (whole_stamp (instant_shown day clock o) (items_text items day clock o))

-- what follows a stamp in the front of its line
abbrev pub rest_of : Stamp → List ℕ → List ℕ
rest_of stamp line = drop (stamp.start + stamp.length) (take longest_front line)

-- a stamp ends within the first 65,500 bytes of a line, where its last word ends
pub record EndsApart (line : List ℕ) (stamp : Stamp) : Type 0 where
  pub short : stamp.start + stamp.length ≤ longest_stamp
  pub apart : runs_on true (rest_of stamp line) ≡ false

-- each stamp that is found ends so
abbrev pub StampsEndApart : Type 0
StampsEndApart =
    (form : Form) (place : Place) (text : List ℕ) (assumed : Assumed) (line : List ℕ) (stamp : Stamp)
    → stamp_at form place text assumed line ≡ Ok stamp → EndsApart line stamp

-- the same without an offset, and without a year
abbrev pub without_offset : Assumed → Assumed
without_offset assumed = record assumed { offset = None }

abbrev pub without_year : Assumed → Assumed
without_year assumed = record assumed { year = None }

-- what is before a stamp in its line
abbrev pub before_of : Stamp → List ℕ → List ℕ
before_of stamp line = take stamp.start (take longest_front line)

-- the rest of a line goes on neither with a word of the stamp nor with a time zone or a half of the day, also in the next column of a
-- table, and the last word before the stamp is no time zone
pub record LeavesNoZone (before rest : List ℕ) : Type 0 where
  pub word : runs_on false rest ≡ false
  pub zone : begins_zone rest ≡ false
  pub column : begins_zone_column rest ≡ false
  pub front : ends_with_zone before ≡ false

-- a stamp that is found by an assumed offset, and not without it, leaves out no zone
abbrev pub ZonesAreNeverLeftOut : Type 0
ZonesAreNeverLeftOut =
    (form : Form) (place : Place) (text : List ℕ) (assumed : Assumed) (line : List ℕ) (stamp : Stamp)
    → stamp_at form place text assumed line ≡ Ok stamp → IsErr (stamp_at form place text (without_offset assumed) line)
    → LeavesNoZone (before_of stamp line) (rest_of stamp line)

-- a stamp that is found by an assumed year, and not without it, leaves out no year
abbrev pub YearsAreNeverLeftOut : Type 0
YearsAreNeverLeftOut =
    (form : Form) (place : Place) (text : List ℕ) (assumed : Assumed) (line : List ℕ) (stamp : Stamp)
    → stamp_at form place text assumed line ≡ Ok stamp → IsErr (stamp_at form place text (without_year assumed) line)
    → begins_year (rest_of stamp line) ≡ false

-- the number of a month, 1 to 12
abbrev pub IsMonthNumber : ℕ → Type 0
IsMonthNumber m = (1 ≤ m) × (m ≤ 12)

-- the number of months from the month of the stamp before, in its year, to a month of a year
abbrev pub months_after : ℤ → ℕ → ℤ → ℕ → ℤ
months_after year before y month = pos 12 *ℤ y +ℤ pos month -ℤ (pos 12 *ℤ year +ℤ pos before)

-- the number of months between them
abbrev pub months_apart : ℤ → ℕ → ℤ → ℕ → ℕ
months_apart year before y month = unsigned_abs (months_after year before y month)

-- of all years of the range, the month is nearest to that of the stamp before in this year. So a year in which it is less than six
-- months away is this one. Of two years that are equally near, it is the year of the stamp before
pub record IsNearestYear (year : ℤ) (before month : ℕ) (y : ℤ) : Type 0 where
  pub in_range : IsYear y
  pub nearest : (z : ℤ) → IsYear z → months_apart year before y month ≤ months_apart year before z month
  pub own : (z : ℤ) → IsYear z → months_apart year before z month < 6 → y ≡ z
  pub stays : months_apart year before year month ≤ months_apart year before y month → y ≡ year

-- a stamp without a year is read in the year in which its month is nearest to that of the stamp before
abbrev pub YearsAreNearest : Type 0
YearsAreNearest =
    (assumed : Assumed) (p : Parts) (year : ℤ) (month : ℕ) → assumed.year ≡ Some year → IsYear year → IsMonthNumber assumed.month
    → lacks_year p ≡ true → p.month ≡ Some month → IsMonthNumber month
    → IsSomeAnd (with_year assumed p).year (λ y. IsNearestYear year assumed.month month y)

-- the first stamp without a year is read in the year that is assumed
abbrev pub FirstYearsStay : Type 0
FirstYearsStay =
    (assumed : Assumed) (p : Parts) → assumed.month ≡ 0 → lacks_year p ≡ true → (with_year assumed p).year ≡ assumed.year
