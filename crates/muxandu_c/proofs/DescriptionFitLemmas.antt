-- An item of numbers has numbers of its types.
use Rattle.std.proofs.Common.{◌≡◌, ℕ, ◌<◌, Bool, true, false, nat_eq, nat_lt, Option, Some, None, inl, inr, subst, arith}
use Rattle.std.specs.Option.{option_map}
use Rattle.std.specs.Prelude.{IfSome, if◌then◌else◌}
use Rattle.std.proofs.lemmas.Bool.{cases_Bool}
use Rattle.std.proofs.lemmas.Bool.Decides.{nat_tests}
use Rattle.rfc3339.specs.Reading.{◌>>=◌}
use Rattle.format_descriptions.specs.declared.component.Component.{Component}
use Rattle.format_descriptions.specs.declared.item.Item.{Item}
use Rattle.format_descriptions.specs.declared.item.Item.TheVariants as item
use Rattle.format_descriptions.specs.declared.modifiers.Padding.{Padding}
use Rattle.muxandu_c.specs.DescriptionItems.{item_of, byte_of, component_of, padded_component, other_component, year_component}
use Rattle.muxandu_c.specs.DescriptionItems.{year_century_component, year_last_two_component, month_name_component, weekday_name_component}
use Rattle.muxandu_c.specs.DescriptionItems.{weekday_number_component, week_number_component, period_component, subsecond_component}
use Rattle.muxandu_c.specs.DescriptionItems.{offset_hour_component, unix_timestamp_component, ignore_component, ignore_weekday_component}
use Rattle.muxandu_c.specs.DescriptionItems.{offset_word_component, year_since_component, year_six_component}
use Rattle.muxandu_c.specs.DescriptionItems.{hour_fraction_component, minute_fraction_component}
use Rattle.muxandu_c.specs.DescriptionLaws.{FitsComponent, FitsItem}
use Rattle.muxandu_c.specs.DescriptionModifiers.{case_numbered, name_form_numbered, padding_numbered, read_case_numbered, sign_numbered}
use Rattle.muxandu_c.specs.DescriptionModifiers.{subsecond_digits_numbered, unix_precision_numbered, utc_word_numbered, week_rule_numbered}
use Rattle.muxandu_c.specs.DescriptionModifiers.{week_start_numbered, weekday_count_numbered, year_base_numbered, year_range_numbered}
use Rattle.muxandu_c.specs.declared.description_items.MuxanduItem.{MuxanduItem}

bind-fits : {A : Type 0} (o : Option A) (f : A → Option Component) → ((x : A) → IfSome (f x) (λ c. FitsComponent c))
    → IfSome (o >>= f) (λ c. FitsComponent c)
bind-fits None f fits = tt
bind-fits (Some x) f fits = fits x

test-fits : (test : Bool) (a b : Option Component) → IfSome a (λ c. FitsComponent c) → IfSome b (λ c. FitsComponent c)
    → IfSome (if test then a else b) (λ c. FitsComponent c)
test-fits true a b first second = first
test-fits false a b first second = second

padded-fits : (kind : ℕ) (p : Padding) → IfSome (padded_component kind p) (λ c. FitsComponent c)
padded-fits kind p =
    test-fits (nat_eq kind 5) _ _ tt (test-fits (nat_eq kind 6) _ _ tt (test-fits (nat_eq kind 7) _ _ tt (test-fits (nat_eq kind 8) _ _ tt
    (test-fits (nat_eq kind 9) _ _ tt (test-fits (nat_eq kind 10) _ _ tt (test-fits (nat_eq kind 11) _ _ tt
    (test-fits (nat_eq kind 12) _ _ tt (test-fits (nat_eq kind 13) _ _ tt tt))))))))

low : (number : ℕ) → nat_lt 65_535 number ≡ false → number < 65_536
low number h = grind (arith, nat_tests, h)

ignore-fits : (number : ℕ) → IfSome (ignore_component number) (λ c. FitsComponent c)
ignore-fits number = elim (cases_Bool (nat_lt 65_535 number)) [
  | inl t ↦ rw t tt
  | inr f ↦ rw f (low number f)
]

year_since-fits : (number : ℕ) → IfSome (year_since_component number) (λ c. FitsComponent c)
year_since-fits number = elim (cases_Bool (nat_lt 65_535 number)) [
  | inl t ↦ rw t tt
  | inr f ↦ rw f (low number f)
]

year-fits : (v : MuxanduItem) → IfSome (year_component v) (λ c. FitsComponent c)
year-fits v =
    bind-fits (year_base_numbered v.first) _ (λ m1. bind-fits (sign_numbered v.second) _ (λ m2. bind-fits (padding_numbered v.third) _
    (λ m3. bind-fits (year_range_numbered v.fourth) _ (λ m4. tt))))

year_century-fits : (v : MuxanduItem) → IfSome (year_century_component v) (λ c. FitsComponent c)
year_century-fits v =
    bind-fits (year_base_numbered v.first) _ (λ m1. bind-fits (sign_numbered v.second) _ (λ m2. bind-fits (padding_numbered v.third) _
    (λ m3. bind-fits (year_range_numbered v.fourth) _ (λ m4. tt))))

year_last_two-fits : (v : MuxanduItem) → IfSome (year_last_two_component v) (λ c. FitsComponent c)
year_last_two-fits v = bind-fits (year_base_numbered v.first) _ (λ m1. bind-fits (padding_numbered v.second) _ (λ m2. tt))

month_name-fits : (v : MuxanduItem) → IfSome (month_name_component v) (λ c. FitsComponent c)
month_name-fits v = bind-fits (name_form_numbered v.first) _ (λ m1. bind-fits (read_case_numbered v.second) _ (λ m2. tt))

weekday_name-fits : (v : MuxanduItem) → IfSome (weekday_name_component v) (λ c. FitsComponent c)
weekday_name-fits v = bind-fits (name_form_numbered v.first) _ (λ m1. bind-fits (read_case_numbered v.second) _ (λ m2. tt))

weekday_number-fits : (v : MuxanduItem) → IfSome (weekday_number_component v) (λ c. FitsComponent c)
weekday_number-fits v = bind-fits (week_start_numbered v.first) _ (λ m1. bind-fits (weekday_count_numbered v.second) _ (λ m2. tt))

week_number-fits : (v : MuxanduItem) → IfSome (week_number_component v) (λ c. FitsComponent c)
week_number-fits v = bind-fits (week_rule_numbered v.first) _ (λ m1. bind-fits (padding_numbered v.second) _ (λ m2. tt))

period-fits : (v : MuxanduItem) → IfSome (period_component v) (λ c. FitsComponent c)
period-fits v = bind-fits (case_numbered v.first) _ (λ m1. bind-fits (read_case_numbered v.second) _ (λ m2. tt))

subsecond-fits : (v : MuxanduItem) → IfSome (subsecond_component v) (λ c. FitsComponent c)
subsecond-fits v = bind-fits (subsecond_digits_numbered v.first) _ (λ m1. tt)

offset_hour-fits : (v : MuxanduItem) → IfSome (offset_hour_component v) (λ c. FitsComponent c)
offset_hour-fits v = bind-fits (sign_numbered v.first) _ (λ m1. bind-fits (padding_numbered v.second) _ (λ m2. tt))

unix_timestamp-fits : (v : MuxanduItem) → IfSome (unix_timestamp_component v) (λ c. FitsComponent c)
unix_timestamp-fits v = bind-fits (unix_precision_numbered v.first) _ (λ m1. bind-fits (sign_numbered v.second) _ (λ m2. tt))

ignore_weekday-fits : (v : MuxanduItem) → IfSome (ignore_weekday_component v) (λ c. FitsComponent c)
ignore_weekday-fits v = bind-fits (name_form_numbered v.first) _ (λ m1. bind-fits (read_case_numbered v.second) _ (λ m2. tt))

offset_word-fits : (v : MuxanduItem) → IfSome (offset_word_component v) (λ c. FitsComponent c)
offset_word-fits v = bind-fits (utc_word_numbered v.first) _ (λ m1. bind-fits (read_case_numbered v.second) _ (λ m2. tt))

year_six-fits : (v : MuxanduItem) → IfSome (year_six_component v) (λ c. FitsComponent c)
year_six-fits v = bind-fits (year_base_numbered v.first) _ (λ m1. tt)

hour_fraction-fits : (v : MuxanduItem) → IfSome (hour_fraction_component v) (λ c. FitsComponent c)
hour_fraction-fits v = bind-fits (subsecond_digits_numbered v.first) _ (λ m1. tt)

minute_fraction-fits : (v : MuxanduItem) → IfSome (minute_fraction_component v) (λ c. FitsComponent c)
minute_fraction-fits v = bind-fits (subsecond_digits_numbered v.first) _ (λ m1. tt)

other-fits : (v : MuxanduItem) → IfSome (other_component v) (λ c. FitsComponent c)
other-fits v =
    test-fits (nat_eq v.kind 14) _ _ (year-fits v) (
    test-fits (nat_eq v.kind 15) _ _ (year_century-fits v) (
    test-fits (nat_eq v.kind 16) _ _ (year_last_two-fits v) (
    test-fits (nat_eq v.kind 17) _ _ (month_name-fits v) (
    test-fits (nat_eq v.kind 18) _ _ (weekday_name-fits v) (
    test-fits (nat_eq v.kind 19) _ _ (weekday_number-fits v) (
    test-fits (nat_eq v.kind 20) _ _ (week_number-fits v) (
    test-fits (nat_eq v.kind 21) _ _ (period-fits v) (
    test-fits (nat_eq v.kind 22) _ _ (subsecond-fits v) (
    test-fits (nat_eq v.kind 23) _ _ (offset_hour-fits v) (
    test-fits (nat_eq v.kind 24) _ _ (unix_timestamp-fits v) (
    test-fits (nat_eq v.kind 25) _ _ (ignore-fits v.number) (
    test-fits (nat_eq v.kind 26) _ _ tt (
    test-fits (nat_eq v.kind 27) _ _ (ignore_weekday-fits v) (
    test-fits (nat_eq v.kind 28) _ _ tt (
    test-fits (nat_eq v.kind 29) _ _ (offset_word-fits v) (
    test-fits (nat_eq v.kind 30) _ _ (year_since-fits v.number) (
    test-fits (nat_eq v.kind 31) _ _ (year_six-fits v) (
    test-fits (nat_eq v.kind 32) _ _ (hour_fraction-fits v) (
    test-fits (nat_eq v.kind 33) _ _ (minute_fraction-fits v) tt)))))))))))))))))))

component-fits : (v : MuxanduItem) → IfSome (component_of v) (λ c. FitsComponent c)
component-fits v =
    test-fits (nat_lt v.kind 14) _ _ (bind-fits (padding_numbered v.first) _ (λ p. padded-fits v.kind p)) (other-fits v)

part-fits : (o : Option Component) → IfSome o (λ c. FitsComponent c) → IfSome (option_map item.Part o) (λ it. FitsItem it)
part-fits None fits = tt
part-fits (Some c) fits = fits

some-fits : (test : Bool) (a b : Option Item) → IfSome a (λ it. FitsItem it) → IfSome b (λ it. FitsItem it)
    → IfSome (if test then a else b) (λ it. FitsItem it)
some-fits true a b first second = first
some-fits false a b first second = second

byte-below : (number : ℕ) → nat_lt 255 number ≡ false → number < 256
byte-below number h = grind (arith, nat_tests, h)

byte-fits : (number : ℕ) → IfSome (byte_of number) (λ it. FitsItem it)
byte-fits number = elim (cases_Bool (nat_lt 255 number)) [
  | inl t ↦ rw t tt
  | inr f ↦ rw f (byte-below number f)
]

item-fits : (v : MuxanduItem) → IfSome (item_of v) (λ it. FitsItem it)
item-fits v =
    some-fits (nat_eq v.kind 1) _ _ (byte-fits v.number) (some-fits (nat_eq v.kind 2) _ _ tt (some-fits (nat_eq v.kind 3) _ _ tt
    (some-fits (nat_eq v.kind 4) _ _ tt (part-fits (component_of v) (component-fits v)))))

pub item-of_numbers : (v : MuxanduItem) (it : Item) → item_of v ≡ Some it → FitsItem it
item-of_numbers v it e = subst (λ o. IfSome o (λ it. FitsItem it)) e (item-fits v)
