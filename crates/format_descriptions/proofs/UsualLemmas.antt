-- A date and a clock that are read at once are those that their items read.
use Rattle.std.proofs.Common.{◌≡◌, ℕ, List, ◌∷◌, refl, Some, None, false}
use Rattle.rfc3339.specs.Reading.{two_digits_at, mark_at, year_at}
use Rattle.format_descriptions.specs.PartTests.{signed}
use Rattle.format_descriptions.specs.Read.{Front, front_of, item_at, component_at, agrees, with_part}
use Rattle.format_descriptions.specs.declared.component.Component.TheVariants.{Year, Month, Day, Hour, Minute, Second}
use Rattle.format_descriptions.specs.declared.item.Item.{Item}
use Rattle.format_descriptions.specs.declared.item.Item.TheVariants.{Byte, Part}
use Rattle.format_descriptions.specs.declared.modifiers.Padding.{Padding}
use Rattle.format_descriptions.specs.declared.modifiers.Sign.TheVariants.{Automatic}
use Rattle.format_descriptions.specs.declared.modifiers.YearBase.TheVariants.{Calendar}
use Rattle.format_descriptions.specs.declared.modifiers.YearRange.{YearRange}
use Rattle.format_descriptions.specs.declared.parts.Parts.{Parts}
use Rattle.format_descriptions.proofs.DigitsFirstLemmas.{two_first, year_first}
use Rattle.format_descriptions.proofs.ReadLemmas.{all_on, byte_on}

-- a part that is not known yet is read
year_on : (padding : Padding) (range : YearRange) (items others : List Item) (text rest : List ℕ) (p : Parts) (n : ℕ) (all : Front)
    → items ≡ Part (Year Calendar Automatic padding range) ∷ others → p.year ≡ None → Some (n, rest) ≡ year_at text
    → front_of items text p ≡ all → front_of others rest (record p { year = Some (signed false n) }) ≡ all
unfolding item_at component_at agrees with_part
year_on padding range items others text rest p n all front none is so =
    all_on (Part (Year Calendar Automatic padding range)) items others text rest p (record p { year = Some (signed false n) }) all front refl
    (rw (← year_first padding range text n rest is, none) refl) so

month_on : (padding : Padding) (items others : List Item) (text rest : List ℕ) (p : Parts) (n : ℕ) (all : Front)
    → items ≡ Part (Month padding) ∷ others → p.month ≡ None → Some (n, rest) ≡ two_digits_at text
    → front_of items text p ≡ all → front_of others rest (record p { month = Some n }) ≡ all
unfolding item_at component_at agrees with_part
month_on padding items others text rest p n all front none is so =
    all_on (Part (Month padding)) items others text rest p (record p { month = Some n }) all front refl
    (rw (← two_first padding text n rest is, none) refl) so

day_on : (padding : Padding) (items others : List Item) (text rest : List ℕ) (p : Parts) (n : ℕ) (all : Front)
    → items ≡ Part (Day padding) ∷ others → p.day ≡ None → Some (n, rest) ≡ two_digits_at text
    → front_of items text p ≡ all → front_of others rest (record p { day = Some n }) ≡ all
unfolding item_at component_at agrees with_part
day_on padding items others text rest p n all front none is so =
    all_on (Part (Day padding)) items others text rest p (record p { day = Some n }) all front refl
    (rw (← two_first padding text n rest is, none) refl) so

hour_on : (padding : Padding) (items others : List Item) (text rest : List ℕ) (p : Parts) (n : ℕ) (all : Front)
    → items ≡ Part (Hour padding) ∷ others → p.hour ≡ None → Some (n, rest) ≡ two_digits_at text
    → front_of items text p ≡ all → front_of others rest (record p { hour = Some n }) ≡ all
unfolding item_at component_at agrees with_part
hour_on padding items others text rest p n all front none is so =
    all_on (Part (Hour padding)) items others text rest p (record p { hour = Some n }) all front refl
    (rw (← two_first padding text n rest is, none) refl) so

minute_on : (padding : Padding) (items others : List Item) (text rest : List ℕ) (p : Parts) (n : ℕ) (all : Front)
    → items ≡ Part (Minute padding) ∷ others → p.minute ≡ None → Some (n, rest) ≡ two_digits_at text
    → front_of items text p ≡ all → front_of others rest (record p { minute = Some n }) ≡ all
unfolding item_at component_at agrees with_part
minute_on padding items others text rest p n all front none is so =
    all_on (Part (Minute padding)) items others text rest p (record p { minute = Some n }) all front refl
    (rw (← two_first padding text n rest is, none) refl) so

second_on : (padding : Padding) (items others : List Item) (text rest : List ℕ) (p : Parts) (n : ℕ) (all : Front)
    → items ≡ Part (Second padding) ∷ others → p.second ≡ None → Some (n, rest) ≡ two_digits_at text
    → front_of items text p ≡ all → front_of others rest (record p { second = Some n }) ≡ all
unfolding item_at component_at agrees with_part
second_on padding items others text rest p n all front none is so =
    all_on (Part (Second padding)) items others text rest p (record p { second = Some n }) all front refl
    (rw (← two_first padding text n rest is, none) refl) so

-- a date of which no part is known yet
pub date_on : (padding : Padding) (range : YearRange) (month_padding day_padding : Padding) (items others : List Item)
    (text a b c d rest : List ℕ) (p : Parts) (year month day : ℕ)
    → items ≡ Part (Year Calendar Automatic padding range) ∷ Byte 45 ∷ Part (Month month_padding) ∷ Byte 45 ∷ Part (Day day_padding) ∷ others
    → p.year ≡ None → p.month ≡ None → p.day ≡ None → Some (year, a) ≡ year_at text → Some b ≡ mark_at 45 a → Some (month, c) ≡ two_digits_at b
    → Some d ≡ mark_at 45 c → Some (day, rest) ≡ two_digits_at d
    → front_of others rest (record p { year = Some (signed false year); month = Some month; day = Some day }) ≡ front_of items text p
date_on padding range month_padding day_padding items others text a b c d rest p year month day front no_year no_month no_day is_a is_b is_c is_d is =
    let first = year_on padding range items _ text a p year (front_of items text p) front no_year is_a refl in
    let marked = byte_on 45 _ _ a b _ _ refl is_b first in
    let third = month_on month_padding _ _ b c _ month _ refl no_month is_c marked in
    let fourth = byte_on 45 _ _ c d _ _ refl is_d third in day_on day_padding _ _ d rest _ day _ refl no_day is fourth

-- a clock of which no part is known yet, after a byte
pub clock_on : (byte : ℕ) (hour_padding minute_padding second_padding : Padding) (items others : List Item)
    (text a b c d e rest : List ℕ) (p : Parts) (hour minute second : ℕ)
    → items ≡ Byte byte ∷ Part (Hour hour_padding) ∷ Byte 58 ∷ Part (Minute minute_padding) ∷ Byte 58 ∷ Part (Second second_padding) ∷ others
    → p.hour ≡ None → p.minute ≡ None → p.second ≡ None → Some a ≡ mark_at byte text → Some (hour, b) ≡ two_digits_at a → Some c ≡ mark_at 58 b
    → Some (minute, d) ≡ two_digits_at c → Some e ≡ mark_at 58 d → Some (second, rest) ≡ two_digits_at e
    → front_of others rest (record p { hour = Some hour; minute = Some minute; second = Some second }) ≡ front_of items text p
clock_on byte hour_padding minute_padding second_padding items others text a b c d e rest p hour minute second front no_hour no_minute no_second
    is_a is_b is_c is_d is_e is =
    let first = byte_on byte items _ text a p (front_of items text p) front is_a refl in
    let after_hour = hour_on hour_padding _ _ a b _ hour _ refl no_hour is_b first in
    let third = byte_on 58 _ _ b c _ _ refl is_c after_hour in
    let fourth = minute_on minute_padding _ _ c d _ minute _ refl no_minute is_d third in
    let fifth = byte_on 58 _ _ d e _ _ refl is_e fourth in second_on second_padding _ _ e rest _ second _ refl no_second is fifth
