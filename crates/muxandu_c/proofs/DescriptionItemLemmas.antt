-- Items read back from their numbers, and numbers that are no item are refused.
use Rattle.std.proofs.Common.{◌≡◌, ◌∙◌, ℕ, zero, suc, ◌<◌, ◌≤◌, ◌⊎◌, inl, inr, Bool, true, false, nat_eq, nat_lt, List, [], ◌∷◌, length}
use Rattle.std.proofs.Common.{Option, Some, None, Result, Ok, Err, refl, ap, arith}
use Rattle.std.specs.List.{slice_index_or}
use Rattle.std.specs.Option.{option_map}
use Rattle.std.specs.Prelude.{All, Contains, map, if◌then◌else◌}
use Rattle.std.proofs.lemmas.Bool.Decides.{nat_tests}
use Rattle.std.proofs.lemmas.List.{length-map}
use Rattle.std.proofs.lemmas.List.Elements.{All-head, All-tail}
use Rattle.rfc3339.specs.Reading.{◌>>=◌}
use Rattle.format_descriptions.specs.declared.component.Component.{Component}
use Rattle.format_descriptions.specs.declared.component.Component.TheVariants as component
use Rattle.format_descriptions.specs.declared.item.Item.{Item}
use Rattle.format_descriptions.specs.declared.item.Item.TheVariants as item
use Rattle.format_descriptions.specs.declared.modifiers.Case.{Case}
use Rattle.format_descriptions.specs.declared.modifiers.Case.TheVariants as case
use Rattle.format_descriptions.specs.declared.modifiers.NameForm.{NameForm}
use Rattle.format_descriptions.specs.declared.modifiers.NameForm.TheVariants as name_form
use Rattle.format_descriptions.specs.declared.modifiers.Padding.{Padding}
use Rattle.format_descriptions.specs.declared.modifiers.Padding.TheVariants as padding
use Rattle.format_descriptions.specs.declared.modifiers.ReadCase.{ReadCase}
use Rattle.format_descriptions.specs.declared.modifiers.ReadCase.TheVariants as read_case
use Rattle.format_descriptions.specs.declared.modifiers.Sign.{Sign}
use Rattle.format_descriptions.specs.declared.modifiers.Sign.TheVariants as sign
use Rattle.format_descriptions.specs.declared.modifiers.SubsecondDigits.{SubsecondDigits}
use Rattle.format_descriptions.specs.declared.modifiers.SubsecondDigits.TheVariants as subsecond_digits
use Rattle.format_descriptions.specs.declared.modifiers.UnixPrecision.{UnixPrecision}
use Rattle.format_descriptions.specs.declared.modifiers.UnixPrecision.TheVariants as unix_precision
use Rattle.format_descriptions.specs.declared.modifiers.UtcWord.{UtcWord}
use Rattle.format_descriptions.specs.declared.modifiers.UtcWord.TheVariants as utc_word
use Rattle.format_descriptions.specs.declared.modifiers.WeekRule.{WeekRule}
use Rattle.format_descriptions.specs.declared.modifiers.WeekRule.TheVariants as week_rule
use Rattle.format_descriptions.specs.declared.modifiers.WeekStart.{WeekStart}
use Rattle.format_descriptions.specs.declared.modifiers.WeekStart.TheVariants as week_start
use Rattle.format_descriptions.specs.declared.modifiers.WeekdayCount.{WeekdayCount}
use Rattle.format_descriptions.specs.declared.modifiers.WeekdayCount.TheVariants as weekday_count
use Rattle.format_descriptions.specs.declared.modifiers.YearBase.{YearBase}
use Rattle.format_descriptions.specs.declared.modifiers.YearBase.TheVariants as year_base
use Rattle.format_descriptions.specs.declared.modifiers.YearRange.{YearRange}
use Rattle.format_descriptions.specs.declared.modifiers.YearRange.TheVariants as year_range
use Rattle.muxandu_c.specs.DescriptionItems.{item_of, component_of, padded_component, numbers_of_item, numbers_of_component}
use Rattle.muxandu_c.specs.DescriptionLaws.{FitsComponent, FitsItem}
use Rattle.muxandu_c.specs.DescriptionModifiers.{case_numbered, name_form_numbered, number_of_case, number_of_name_form}
use Rattle.muxandu_c.specs.DescriptionModifiers.{number_of_padding, number_of_read_case, number_of_sign, number_of_subsecond_digits}
use Rattle.muxandu_c.specs.DescriptionModifiers.{number_of_unix_precision, number_of_utc_word, number_of_week_rule, number_of_week_start}
use Rattle.muxandu_c.specs.DescriptionModifiers.{number_of_weekday_count, number_of_year_base, number_of_year_range, padding_numbered}
use Rattle.muxandu_c.specs.DescriptionModifiers.{read_case_numbered, sign_numbered, subsecond_digits_numbered, unix_precision_numbered}
use Rattle.muxandu_c.specs.DescriptionModifiers.{utc_word_numbered, week_rule_numbered, week_start_numbered, weekday_count_numbered}
use Rattle.muxandu_c.specs.DescriptionModifiers.{year_base_numbered, year_range_numbered}
use Rattle.muxandu_c.specs.Descriptions.{refused_if_none, item_before, all_items, items_of}
use Rattle.muxandu_c.specs.declared.description_items.MuxanduItem.{MuxanduItem}
use Rattle.muxandu_c.specs.declared.refused.Refused.{Refused}
use Rattle.muxandu_c.specs.declared.refused.Refused.TheVariants as refused

-- ---- modifiers

padding-again : (m : Padding) → padding_numbered (number_of_padding m) ≡ Some m
padding-again padding.Zero = refl
padding-again padding.Space = refl
padding-again padding.Bare = refl

sign-again : (m : Sign) → sign_numbered (number_of_sign m) ≡ Some m
sign-again sign.Automatic = refl
sign-again sign.Mandatory = refl

name_form-again : (m : NameForm) → name_form_numbered (number_of_name_form m) ≡ Some m
name_form-again name_form.Long = refl
name_form-again name_form.Short = refl

case-again : (m : Case) → case_numbered (number_of_case m) ≡ Some m
case-again case.Upper = refl
case-again case.Lower = refl

read_case-again : (m : ReadCase) → read_case_numbered (number_of_read_case m) ≡ Some m
read_case-again read_case.Same = refl
read_case-again read_case.Any = refl

year_base-again : (m : YearBase) → year_base_numbered (number_of_year_base m) ≡ Some m
year_base-again year_base.Calendar = refl
year_base-again year_base.IsoWeek = refl

year_range-again : (m : YearRange) → year_range_numbered (number_of_year_range m) ≡ Some m
year_range-again year_range.Standard = refl
year_range-again year_range.Extended = refl

week_rule-again : (m : WeekRule) → week_rule_numbered (number_of_week_rule m) ≡ Some m
week_rule-again week_rule.Iso = refl
week_rule-again week_rule.Sunday = refl
week_rule-again week_rule.Monday = refl

week_start-again : (m : WeekStart) → week_start_numbered (number_of_week_start m) ≡ Some m
week_start-again week_start.Sunday = refl
week_start-again week_start.Monday = refl

weekday_count-again : (m : WeekdayCount) → weekday_count_numbered (number_of_weekday_count m) ≡ Some m
weekday_count-again weekday_count.FromZero = refl
weekday_count-again weekday_count.FromOne = refl

unix_precision-again : (m : UnixPrecision) → unix_precision_numbered (number_of_unix_precision m) ≡ Some m
unix_precision-again unix_precision.Seconds = refl
unix_precision-again unix_precision.Milliseconds = refl
unix_precision-again unix_precision.Microseconds = refl
unix_precision-again unix_precision.Nanoseconds = refl

utc_word-again : (m : UtcWord) → utc_word_numbered (number_of_utc_word m) ≡ Some m
utc_word-again utc_word.Utc = refl
utc_word-again utc_word.Gmt = refl
utc_word-again utc_word.Zulu = refl

subsecond_digits-again : (m : SubsecondDigits) → subsecond_digits_numbered (number_of_subsecond_digits m) ≡ Some m
subsecond_digits-again subsecond_digits.OneOrMore = refl
subsecond_digits-again subsecond_digits.One = refl
subsecond_digits-again subsecond_digits.Two = refl
subsecond_digits-again subsecond_digits.Three = refl
subsecond_digits-again subsecond_digits.Four = refl
subsecond_digits-again subsecond_digits.Five = refl
subsecond_digits-again subsecond_digits.Six = refl
subsecond_digits-again subsecond_digits.Seven = refl
subsecond_digits-again subsecond_digits.Eight = refl
subsecond_digits-again subsecond_digits.Nine = refl

-- ---- components and items

short : (count : ℕ) → count < 65_536 → nat_lt 65_535 count ≡ false
short count low = grind (arith, nat_tests, low)

component-again : (c : Component) → FitsComponent c → component_of (numbers_of_component c) ≡ Some c
component-again (component.Month p) fits = rw (padding-again p) refl
component-again (component.Day p) fits = rw (padding-again p) refl
component-again (component.Ordinal p) fits = rw (padding-again p) refl
component-again (component.Hour p) fits = rw (padding-again p) refl
component-again (component.Hour12 p) fits = rw (padding-again p) refl
component-again (component.Minute p) fits = rw (padding-again p) refl
component-again (component.Second p) fits = rw (padding-again p) refl
component-again (component.OffsetMinute p) fits = rw (padding-again p) refl
component-again (component.OffsetSecond p) fits = rw (padding-again p) refl
component-again (component.Year b s p r) fits = rw (year_base-again b, sign-again s, padding-again p, year_range-again r) refl
component-again (component.YearCentury b s p r) fits = rw (year_base-again b, sign-again s, padding-again p, year_range-again r) refl
component-again (component.YearLastTwo b p) fits = rw (year_base-again b, padding-again p) refl
component-again (component.MonthName f c) fits = rw (name_form-again f, read_case-again c) refl
component-again (component.WeekdayName f c) fits = rw (name_form-again f, read_case-again c) refl
component-again (component.WeekdayNumber s c) fits = rw (week_start-again s, weekday_count-again c) refl
component-again (component.WeekNumber r p) fits = rw (week_rule-again r, padding-again p) refl
component-again (component.Period c r) fits = rw (case-again c, read_case-again r) refl
component-again (component.Subsecond d) fits = rw (subsecond_digits-again d) refl
component-again (component.OffsetHour s p) fits = rw (sign-again s, padding-again p) refl
component-again (component.UnixTimestamp p s) fits = rw (unix_precision-again p, sign-again s) refl
component-again (component.Ignore count) fits = rw (short count fits) refl
component-again component.End fits = refl
component-again (component.IgnoreWeekday f c) fits = rw (name_form-again f, read_case-again c) refl
component-again component.IgnoreDigits fits = refl
component-again (component.OffsetWord w c) fits = rw (utc_word-again w, read_case-again c) refl
component-again (component.YearSince first) fits = rw (short first fits) refl
component-again (component.YearSix b) fits = rw (year_base-again b) refl
component-again (component.HourFraction d) fits = rw (subsecond_digits-again d) refl
component-again (component.MinuteFraction d) fits = rw (subsecond_digits-again d) refl

-- the numbers of a component are none of an item without modifiers
part_of : (c : Component) → item_of (numbers_of_component c) ≡ option_map item.Part (component_of (numbers_of_component c))
part_of (component.Month p) = refl
part_of (component.Day p) = refl
part_of (component.Ordinal p) = refl
part_of (component.Hour p) = refl
part_of (component.Hour12 p) = refl
part_of (component.Minute p) = refl
part_of (component.Second p) = refl
part_of (component.OffsetMinute p) = refl
part_of (component.OffsetSecond p) = refl
part_of (component.Year b s p r) = refl
part_of (component.YearCentury b s p r) = refl
part_of (component.YearLastTwo b p) = refl
part_of (component.MonthName f c) = refl
part_of (component.WeekdayName f c) = refl
part_of (component.WeekdayNumber s c) = refl
part_of (component.WeekNumber r p) = refl
part_of (component.Period c r) = refl
part_of (component.Subsecond d) = refl
part_of (component.OffsetHour s p) = refl
part_of (component.UnixTimestamp p s) = refl
part_of (component.Ignore count) = refl
part_of component.End = refl
part_of (component.IgnoreWeekday f c) = refl
part_of component.IgnoreDigits = refl
part_of (component.OffsetWord w c) = refl
part_of (component.YearSince first) = refl
part_of (component.YearSix b) = refl
part_of (component.HourFraction d) = refl
part_of (component.MinuteFraction d) = refl

byte-again : (byte : ℕ) → byte < 256 → nat_lt 255 byte ≡ false
byte-again byte low = grind (arith, nat_tests, low)

pub item-again : (it : Item) → FitsItem it → item_of (numbers_of_item it) ≡ Some it
item-again (item.Byte byte) fits = rw (byte-again byte fits) refl
item-again (item.Optional size) fits = refl
item-again (item.First size) fits = refl
item-again (item.Or size) fits = refl
item-again (item.Part c) fits = part_of c ∙ ap (λ o. option_map item.Part o) (component-again c fits)

-- ---- all items

all_items-again : (items : List Item) → All (λ it. FitsItem it) items → all_items (map numbers_of_item items) ≡ Ok items
all_items-again [] fits = refl
all_items-again (it ∷ items) fits =
    let first = item-again it (All-head (λ it. FitsItem it) it items fits) in
    let others = all_items-again items (All-tail (λ it. FitsItem it) it items fits) in
    rw (first, others) refl

pub items-again : (items : List Item) → length items ≤ 128 → All (λ it. FitsItem it) items → items_of (map numbers_of_item items) ≡ Ok items
items-again items few fits =
    let size = length-map items numbers_of_item in
    let room : nat_lt 128 (length (map numbers_of_item items)) ≡ false = grind (arith, nat_tests, few, size) in
    rw room (all_items-again items fits)

-- ---- numbers that are no item

no_component : (o : Option Padding) → (o >>= λ p. padded_component 0 p) ≡ None
no_component None = refl
no_component (Some p) = refl

far : (k i : ℕ) → 33 < k → i ≤ 33 → nat_eq k i ≡ false
far k i high low = grind (arith, nat_tests, high, low)

past : (k : ℕ) → 33 < k → nat_lt k 14 ≡ false
past k high = grind (arith, nat_tests, high)

pub item-no_kind : (v : MuxanduItem) → (v.kind ≡ 0) ⊎ (33 < v.kind) → item_of v ≡ None
item-no_kind v (inl none) = rw none (ap (λ c. option_map item.Part c) (no_component (padding_numbered v.first)))
item-no_kind v (inr high) =
    let at : (i : ℕ) → i ≤ 33 → nat_eq v.kind i ≡ false = λ i low. far v.kind i high low in
    rw (
      at 1 (omega arith),
      at 2 (omega arith),
      at 3 (omega arith),
      at 4 (omega arith),
      past v.kind high,
      at 14 (omega arith),
      at 15 (omega arith),
      at 16 (omega arith),
      at 17 (omega arith),
      at 18 (omega arith),
      at 19 (omega arith),
      at 20 (omega arith),
      at 21 (omega arith),
      at 22 (omega arith),
      at 23 (omega arith),
      at 24 (omega arith),
      at 25 (omega arith),
      at 26 (omega arith),
      at 27 (omega arith),
      at 28 (omega arith),
      at 29 (omega arith),
      at 30 (omega arith),
      at 31 (omega arith),
      at 32 (omega arith),
      at 33 (omega arith),
    ) refl

refused_before : (o : Option Item) (others : Result (List Item) Refused) → others ≡ Err refused.Unit
    → item_before (refused_if_none o) others ≡ Err refused.Unit
refused_before None others e = refl
refused_before (Some it) others e = rw e refl

all_items-refused : (numbers : List MuxanduItem) (k : ℕ) (v : MuxanduItem) → k < length numbers → slice_index_or numbers k v ≡ v
    → item_of v ≡ None
    → all_items numbers ≡ Err refused.Unit
all_items-refused [] k v inside at none = absurd (omega (arith, inside))
all_items-refused (x ∷ numbers) zero v inside at none =
    let same : x ≡ v = at in
    let first : item_of x ≡ None = ap (λ z. item_of z) same ∙ none in rw first refl
all_items-refused (x ∷ numbers) (suc k) v inside at none =
    refused_before (item_of x) (all_items numbers) (all_items-refused numbers k v (omega (arith, inside)) at none)

either : (long : Bool) (r : Result (List Item) Refused) → (if long then r else r) ≡ r
either true r = refl
either false r = refl

pub items-refused : (numbers : List MuxanduItem) (v : MuxanduItem) → Contains numbers v → item_of v ≡ None
    → items_of numbers ≡ Err refused.Unit
items-refused numbers v at none =
    rw (all_items-refused numbers at.0 v at.1 at.2 none) (either (nat_lt 128 (length numbers)) (Err refused.Unit))
