-- The text of a description has at most 80 bytes for each item, and one more: where a room has these, its size is of no account.
use Rattle.std.proofs.Common.{◌≡◌, ℕ, zero, suc, ◌+◌, ◌-◌, ◌*◌, ◌<◌, ◌≤◌, ◌==◌, ◌||◌, Bool, true, false, List, [], ◌∷◌, ◌++◌, length, codes, decimal}
use Rattle.std.proofs.Common.{refl, arith, inl, inr, lit≤}
use Rattle.std.specs.Prelude.{Option, Some, None, Result, Ok, Err, IfOk, nat_lt, if◌then◌else◌}
use Rattle.std.proofs.lemmas.Bool.{cases_Bool}
use Rattle.std.proofs.lemmas.Bool.Decides.{nat_tests}
use Rattle.std.proofs.lemmas.Fmt.{length-decimal-le}
use Rattle.std.proofs.lemmas.List.{length-append}
use Rattle.format_descriptions.specs.DescriptionTexts.{in_brackets, component_source, byte_source, plain_source, group_opening, group_end, is_several}
use Rattle.format_descriptions.specs.DescriptionTexts.{end_of_several, fault_of_other, fault_or, group_fault, SourceFault, with_piece, with_source}
use Rattle.format_descriptions.specs.DescriptionTexts.{unless_fault, and_then, source_by, last_end, source_from, description_source}
use Rattle.format_descriptions.specs.Groups.{size_of}
use Rattle.format_descriptions.specs.ModifierTexts.{padding_modifier, sign_modifier, case_modifier, read_case_modifier, count_modifier}
use Rattle.format_descriptions.specs.ModifierTexts.{base_modifier, range_modifier, digits_modifier, precision_modifier}
use Rattle.format_descriptions.specs.ModifierTexts.{month_modifier, weekday_modifier, start_modifier, rule_modifier}
use Rattle.format_descriptions.specs.declared.component.Component.{Component}
use Rattle.format_descriptions.specs.declared.component.Component.TheVariants.{Year, YearCentury, YearLastTwo, Month, MonthName, Day, Ordinal}
use Rattle.format_descriptions.specs.declared.component.Component.TheVariants.{WeekdayName, WeekdayNumber, WeekNumber, Hour, Hour12, Period, Minute}
use Rattle.format_descriptions.specs.declared.component.Component.TheVariants.{Second, Subsecond}
use Rattle.format_descriptions.specs.declared.component.Component.TheVariants.{OffsetHour, OffsetMinute, OffsetSecond, UnixTimestamp, Ignore, End}
use Rattle.format_descriptions.specs.declared.component.Component.TheVariants.{IgnoreWeekday, IgnoreDigits, OffsetWord, YearSince, YearSix}
use Rattle.format_descriptions.specs.declared.component.Component.TheVariants.{HourFraction, MinuteFraction}
use Rattle.format_descriptions.specs.declared.description_steps.DescriptionVersion.{DescriptionVersion}
use Rattle.format_descriptions.specs.declared.description_steps.DescriptionVersion.TheVariants.{One as VersionOne, Two as VersionTwo}
use Rattle.format_descriptions.specs.declared.item.Item.{Item}
use Rattle.format_descriptions.specs.declared.item.Item.TheVariants.{Byte, Part, Optional, First, Or}
use Rattle.format_descriptions.specs.declared.item_refusal.ItemFault.{ItemFault}
use Rattle.format_descriptions.specs.declared.modifiers.Padding.{Padding}
use Rattle.format_descriptions.specs.declared.modifiers.Padding.TheVariants.{Zero, Space, Bare}
use Rattle.format_descriptions.specs.declared.modifiers.Sign.{Sign}
use Rattle.format_descriptions.specs.declared.modifiers.Sign.TheVariants.{Automatic, Mandatory}
use Rattle.format_descriptions.specs.declared.modifiers.Case.{Case}
use Rattle.format_descriptions.specs.declared.modifiers.Case.TheVariants.{Upper, Lower}
use Rattle.format_descriptions.specs.declared.modifiers.ReadCase.{ReadCase}
use Rattle.format_descriptions.specs.declared.modifiers.ReadCase.TheVariants.{Same, Any}
use Rattle.format_descriptions.specs.declared.modifiers.NameForm.{NameForm}
use Rattle.format_descriptions.specs.declared.modifiers.NameForm.TheVariants.{Long, Short}
use Rattle.format_descriptions.specs.declared.modifiers.WeekRule.{WeekRule}
use Rattle.format_descriptions.specs.declared.modifiers.WeekRule.TheVariants.{Iso, Sunday, Monday}
use Rattle.format_descriptions.specs.declared.modifiers.WeekStart.{WeekStart}
use Rattle.format_descriptions.specs.declared.modifiers.WeekStart.TheVariants.{Sunday as FromSunday, Monday as FromMonday}
use Rattle.format_descriptions.specs.declared.modifiers.WeekdayCount.{WeekdayCount}
use Rattle.format_descriptions.specs.declared.modifiers.WeekdayCount.TheVariants.{FromZero, FromOne}
use Rattle.format_descriptions.specs.declared.modifiers.YearBase.{YearBase}
use Rattle.format_descriptions.specs.declared.modifiers.YearBase.TheVariants.{Calendar, IsoWeek}
use Rattle.format_descriptions.specs.declared.modifiers.YearRange.{YearRange}
use Rattle.format_descriptions.specs.declared.modifiers.YearRange.TheVariants.{Standard, Extended}
use Rattle.format_descriptions.specs.declared.modifiers.SubsecondDigits.{SubsecondDigits}
use Rattle.format_descriptions.specs.declared.modifiers.SubsecondDigits.TheVariants.{OneOrMore, One, Two, Three, Four, Five, Six, Seven, Eight, Nine}
use Rattle.format_descriptions.specs.declared.modifiers.UnixPrecision.{UnixPrecision}
use Rattle.format_descriptions.specs.declared.modifiers.UnixPrecision.TheVariants.{Seconds, Milliseconds, Microseconds, Nanoseconds}

-- the modifiers are short
padding_short : (m : Padding) → length (padding_modifier m) ≤ 14
padding_short Zero = lit≤ tt
padding_short Space = lit≤ tt
padding_short Bare = lit≤ tt

sign_short : (m : Sign) → length (sign_modifier m) ≤ 15
sign_short Automatic = lit≤ tt
sign_short Mandatory = lit≤ tt

case_short : (m : Case) → length (case_modifier m) ≤ 11
case_short Upper = lit≤ tt
case_short Lower = lit≤ tt

read_case_short : (m : ReadCase) → length (read_case_modifier m) ≤ 21
read_case_short Same = lit≤ tt
read_case_short Any = lit≤ tt

count_short : (m : WeekdayCount) → length (count_modifier m) ≤ 18
count_short FromOne = lit≤ tt
count_short FromZero = lit≤ tt

base_short : (m : YearBase) → length (base_modifier m) ≤ 14
base_short Calendar = lit≤ tt
base_short IsoWeek = lit≤ tt

range_short : (m : YearRange) → length (range_modifier m) ≤ 15
range_short Extended = lit≤ tt
range_short Standard = lit≤ tt

digits_short : (m : SubsecondDigits) → length (digits_modifier m) ≤ 9
digits_short OneOrMore = lit≤ tt
digits_short One = lit≤ tt
digits_short Two = lit≤ tt
digits_short Three = lit≤ tt
digits_short Four = lit≤ tt
digits_short Five = lit≤ tt
digits_short Six = lit≤ tt
digits_short Seven = lit≤ tt
digits_short Eight = lit≤ tt
digits_short Nine = lit≤ tt

precision_short : (m : UnixPrecision) → length (precision_modifier m) ≤ 22
precision_short Seconds = lit≤ tt
precision_short Milliseconds = lit≤ tt
precision_short Microseconds = lit≤ tt
precision_short Nanoseconds = lit≤ tt

month_short : (m : NameForm) → length (month_modifier m) ≤ 11
month_short Long = lit≤ tt
month_short Short = lit≤ tt

weekday_short : (m : NameForm) → length (weekday_modifier m) ≤ 11
weekday_short Long = lit≤ tt
weekday_short Short = lit≤ tt

start_short : (m : WeekStart) → length (start_modifier m) ≤ 12
start_short FromSunday = lit≤ tt
start_short FromMonday = lit≤ tt

rule_short : (m : WeekRule) → length (rule_modifier m) ≤ 12
rule_short Iso = lit≤ tt
rule_short Sunday = lit≤ tt
rule_short Monday = lit≤ tt

-- the text in brackets has the bytes of its words, and a `]`
brackets_short : (name a b c d : List ℕ) → length name + (length a + (length b + (length c + length d))) ≤ 78
    → length (in_brackets name a b c d) ≤ 79
brackets_short name a b c d few =
    let first = length-append name (a ++ (b ++ (c ++ (d ++ codes "]")))) in
    let second = length-append a (b ++ (c ++ (d ++ codes "]"))) in
    let third = length-append b (c ++ (d ++ codes "]")) in
    let fourth = length-append c (d ++ codes "]") in
    let last = length-append d (codes "]") in
    omega (arith, few, first, second, third, fourth, last)

if_short : (test : Bool) (n : ℕ) (x y : Result (List ℕ) ItemFault) → IfOk x (λ piece. length piece ≤ n) → IfOk y (λ piece. length piece ≤ n)
    → IfOk (if test then x else y) (λ piece. length piece ≤ n)
if_short true n x y first second = first
if_short false n x y first second = second

last_low : (count : ℕ) → (count == 0 || nat_lt 65_535 count) ≡ false → count < 65_536
last_low count f = grind (arith, nat_tests, f)

ignore_short : (count : ℕ) → IfOk (component_source (Ignore count)) (λ piece. length piece ≤ 79)
unfolding component_source
ignore_short count = elim (cases_Bool (count == 0 || nat_lt 65_535 count)) [
  | inl t ↦ rw t tt
  | inr f ↦
      let low : count < 65_536 = last_low count f in
      rw f (brackets_short (codes "[ignore count:") (decimal count) [] [] []
      (omega (arith, length-decimal-le 5 count (omega arith) (omega (arith, low)) (omega (arith, low)))))
]

component_short : (c : Component) → IfOk (component_source c) (λ piece. length piece ≤ 79)
unfolding component_source
component_short (Year base sign padding range) =
    brackets_short (codes "[year") (padding_modifier padding) (sign_modifier sign) (base_modifier base) (range_modifier range)
    (omega (arith, padding_short padding, sign_short sign, base_short base, range_short range))
component_short (YearCentury base sign padding range) =
    brackets_short (codes "[year repr:century") (padding_modifier padding) (sign_modifier sign) (base_modifier base) (range_modifier range)
    (omega (arith, padding_short padding, sign_short sign, base_short base, range_short range))
component_short (YearLastTwo base padding) =
    brackets_short (codes "[year repr:last_two") (padding_modifier padding) (base_modifier base) [] []
    (omega (arith, padding_short padding, base_short base))
component_short (Month padding) = brackets_short (codes "[month") (padding_modifier padding) [] [] [] (omega (arith, padding_short padding))
component_short (MonthName form case) =
    brackets_short (codes "[month") (month_modifier form) (read_case_modifier case) [] []
    (omega (arith, month_short form, read_case_short case))
component_short (Day padding) = brackets_short (codes "[day") (padding_modifier padding) [] [] [] (omega (arith, padding_short padding))
component_short (Ordinal padding) = brackets_short (codes "[ordinal") (padding_modifier padding) [] [] [] (omega (arith, padding_short padding))
component_short (WeekdayName form case) =
    brackets_short (codes "[weekday") (weekday_modifier form) (read_case_modifier case) [] []
    (omega (arith, weekday_short form, read_case_short case))
component_short (WeekdayNumber start count) =
    brackets_short (codes "[weekday") (start_modifier start) (count_modifier count) [] []
    (omega (arith, start_short start, count_short count))
component_short (WeekNumber rule padding) =
    brackets_short (codes "[week_number") (rule_modifier rule) (padding_modifier padding) [] []
    (omega (arith, rule_short rule, padding_short padding))
component_short (Hour padding) = brackets_short (codes "[hour") (padding_modifier padding) [] [] [] (omega (arith, padding_short padding))
component_short (Hour12 padding) = brackets_short (codes "[hour repr:12") (padding_modifier padding) [] [] [] (omega (arith, padding_short padding))
component_short (Period case read) =
    brackets_short (codes "[period") (case_modifier case) (read_case_modifier read) [] []
    (omega (arith, case_short case, read_case_short read))
component_short (Minute padding) = brackets_short (codes "[minute") (padding_modifier padding) [] [] [] (omega (arith, padding_short padding))
component_short (Second padding) = brackets_short (codes "[second") (padding_modifier padding) [] [] [] (omega (arith, padding_short padding))
component_short (Subsecond digits) = brackets_short (codes "[subsecond") (digits_modifier digits) [] [] [] (omega (arith, digits_short digits))
component_short (OffsetHour sign padding) =
    brackets_short (codes "[offset_hour") (sign_modifier sign) (padding_modifier padding) [] []
    (omega (arith, sign_short sign, padding_short padding))
component_short (OffsetMinute padding) =
    brackets_short (codes "[offset_minute") (padding_modifier padding) [] [] []
    (omega (arith, padding_short padding))
component_short (OffsetSecond padding) =
    brackets_short (codes "[offset_second") (padding_modifier padding) [] [] []
    (omega (arith, padding_short padding))
component_short (UnixTimestamp precision sign) =
    brackets_short (codes "[unix_timestamp") (precision_modifier precision) (sign_modifier sign) [] []
    (omega (arith, precision_short precision, sign_short sign))
component_short (Ignore count) = ignore_short count
component_short End = brackets_short (codes "[end") [] [] [] [] (omega (arith))
component_short (IgnoreWeekday form case) = tt
component_short IgnoreDigits = tt
component_short (OffsetWord word case) = tt
component_short (YearSince first) = tt
component_short (YearSix base) = tt
component_short (HourFraction digits) = tt
component_short (MinuteFraction digits) = tt

byte_short : (v : DescriptionVersion) (in_group : Bool) (b : ℕ) → IfOk (byte_source v in_group b) (λ piece. length piece ≤ 79)
unfolding byte_source
byte_short VersionOne in_group b = if_short (b == 91) 79 _ _ (lit≤ tt) (if_short (b == 93) 79 _ _ (if_short in_group 79 _ _ tt (lit≤ tt)) (lit≤ tt))
byte_short VersionTwo in_group b = if_short (b == 91 || (b == 93 || b == 92)) 79 _ _ (lit≤ tt) (lit≤ tt)

plain_short : (v : DescriptionVersion) (in_group : Bool) (item : Item) → IfOk (plain_source v in_group item) (λ piece. length piece ≤ 79)
plain_short v in_group (Byte byte) = byte_short v in_group byte
plain_short v in_group (Part component) = component_short component
plain_short v in_group (Optional size) = lit≤ tt
plain_short v in_group (First size) = lit≤ tt
plain_short v in_group (Or size) = lit≤ tt

opening_short : (item : Item) → length (group_opening item) ≤ 11
opening_short (Byte byte) = lit≤ tt
opening_short (Part component) = lit≤ tt
opening_short (Optional size) = lit≤ tt
opening_short (First size) = lit≤ tt
opening_short (Or size) = lit≤ tt

end_short : (item : Item) → length (group_end item) ≤ 2
end_short (Byte byte) = lit≤ tt
end_short (Part component) = lit≤ tt
end_short (Optional size) = lit≤ tt
end_short (First size) = lit≤ tt
end_short (Or size) = lit≤ tt

several_short : (several : Bool) (item : Item) → length (end_of_several several item) ≤ 1
several_short false item = lit≤ tt
several_short true (Byte byte) = lit≤ tt
several_short true (Part component) = lit≤ tt
several_short true (Optional size) = lit≤ tt
several_short true (First size) = lit≤ tt
several_short true (Or size) = lit≤ tt

last_short : (several : Bool) → length (last_end several) ≤ 1
last_short true = lit≤ tt
last_short false = lit≤ tt

some_fault : {fault : ItemFault} → Some fault ≡ None → ⊥
some_fault none = cc

-- a group that has no fault is within the items that are left
size_within : (depth size count : ℕ) (other : Option ItemFault) → fault_or depth size count other ≡ None → size ≤ count
size_within depth size count (Some fault) none = absurd cc
size_within depth size count None none = elim (cases_Bool (nat_lt count size)) [
  | inl t ↦ absurd (some_fault (rw t at none))
  | inr f ↦ grind (arith, nat_tests, f)
]

-- two results are the same, and have at most this number of bytes
abbrev pub AreSameAndShort : ℕ → Result (List ℕ) SourceFault → Result (List ℕ) SourceFault → Type 0
AreSameAndShort most a b = (a ≡ b) × IfOk b (λ text. length text ≤ most)

-- a piece that has a place in a room
piece_fits : (room left : ℕ) (text piece : List ℕ) → length text + length piece ≤ room → with_piece room left text piece ≡ Ok (text ++ piece)
piece_fits room left text piece fits =
    let enough : nat_lt room (length text + length piece) ≡ false = grind (arith, nat_tests, fits) in rw enough refl

piece_short : (r s left n most : ℕ) (text piece : List ℕ) → length piece ≤ n → length text + n ≤ most → most ≤ r → most ≤ s
    → AreSameAndShort most (with_piece r left text piece) (with_piece s left text piece)
piece_short r s left n most text piece few below in_r in_s =
    rw (piece_fits r left text piece (omega (arith, few, below, in_r)), piece_fits s left text piece (omega (arith, few, below, in_s)))
    (refl, omega (arith, length-append text piece, few, below))

source_short : (r s left n most : ℕ) (text : List ℕ) (source : Result (List ℕ) ItemFault) → IfOk source (λ piece. length piece ≤ n)
    → length text + n ≤ most → most ≤ r → most ≤ s → AreSameAndShort most (with_source r left text source) (with_source s left text source)
source_short r s left n most text (Ok piece) few below in_r in_s = piece_short r s left n most text piece few below in_r in_s
source_short r s left n most text (Err fault) few below in_r in_s = (refl, tt)

then_short : (m most : ℕ) (a b : Result (List ℕ) SourceFault) (next_a next_b : List ℕ → Result (List ℕ) SourceFault) → AreSameAndShort m a b
    → ((text : List ℕ) → length text ≤ m → AreSameAndShort most (next_a text) (next_b text))
    → AreSameAndShort most (and_then a next_a) (and_then b next_b)
then_short m most a (Ok text) next_a next_b same next = rw same.0 (next text same.1)
then_short m most a (Err fault) next_a next_b same next = rw same.0 (refl, tt)

longer_short : (m most : ℕ) (a b : Result (List ℕ) SourceFault) → m ≤ most → AreSameAndShort m a b → AreSameAndShort most a b
longer_short m most a (Ok text) below same = (same.0, omega (arith, below, same.1))
longer_short m most a (Err fault) below same = (same.0, tt)

-- the texts of items in two rooms
abbrev pub TextWith : Type 0
TextWith = ℕ → Bool → ℕ → ℕ → List ℕ → Result (List ℕ) SourceFault

-- `count` items, in two rooms that have place for them
abbrev pub AreEnough : ℕ → ℕ → TextWith → TextWith → Type 0
AreEnough r s a b = (depth : ℕ) (several : Bool) (skip count : ℕ) (text : List ℕ) → length text + (80 * count + 1) ≤ r → length text + (80 * count + 1) ≤ s
    → AreSameAndShort (length text + (80 * count + 1)) (a depth several skip count text) (b depth several skip count text)

-- a group, and the items after it
group_short : (r s left depth most : ℕ) (item : Item) (size count : ℕ) (a b : TextWith) (text : List ℕ) (fault : Option ItemFault)
    → (fault ≡ None → size ≤ count) → AreEnough r s a b → length text + 80 * suc count ≤ most → most ≤ r → most ≤ s
    → AreSameAndShort most
    (and_then (unless_fault r left text (group_opening item) fault) (λ opened. and_then (a (depth + 1) false 0 size opened)
    (λ own. and_then (with_piece r left own (group_end item)) (λ closed. a depth (is_several item) size (count - size) closed))))
    (and_then (unless_fault s left text (group_opening item) fault) (λ opened. and_then (b (depth + 1) false 0 size opened)
    (λ own. and_then (with_piece s left own (group_end item)) (λ closed. b depth (is_several item) size (count - size) closed))))
group_short r s left depth most item size count a b text (Some fault) within next below in_r in_s = (refl, tt)
group_short r s left depth most item size count a b text None within next below in_r in_s =
    let inside : size ≤ count = within refl in
    then_short (length text + 11) most _ _ _ _
    (piece_short r s left 11 (length text + 11) text (group_opening item) (opening_short item) (omega arith) (omega (arith, below, in_r))
    (omega (arith, below, in_s)))
    (λ opened few. then_short (length opened + (80 * size + 1)) most _ _ _ _
    (next (depth + 1) false 0 size opened (omega (arith, few, inside, below, in_r)) (omega (arith, few, inside, below, in_s)))
    (λ own few_own. then_short (length own + 2) most _ _ _ _
    (piece_short r s left 2 (length own + 2) own (group_end item) (end_short item) (omega arith) (omega (arith, few, few_own, inside, below, in_r))
    (omega (arith, few, few_own, inside, below, in_s)))
    (λ closed few_closed. longer_short (length closed + (80 * (count - size) + 1)) most _ _ (omega (arith, few, few_own, few_closed, inside, below))
    (next depth (is_several item) size (count - size) closed (omega (arith, few, few_own, few_closed, inside, below, in_r))
    (omega (arith, few, few_own, few_closed, inside, below, in_s))))))

-- an item, and those after it
item_short : (v : DescriptionVersion) (r s left depth most : ℕ) (several : Bool) (item : Item) (count : ℕ) (a b : TextWith) (text : List ℕ)
    (size : Option ℕ) → AreEnough r s a b → length text + 80 * suc count ≤ most → most ≤ r → most ≤ s
    → AreSameAndShort most (source_by v r left depth several item count a text size) (source_by v s left depth several item count b text size)
item_short v r s left depth most several item count a b text (Some size) next below in_r in_s =
    group_short r s left depth most item size count a b text (group_fault depth several item size count)
    (size_within depth size count (fault_of_other several item)) next below in_r in_s
item_short v r s left depth most several item count a b text None next below in_r in_s =
    then_short (length text + 79) most _ _ _ _
    (source_short r s left 79 (length text + 79) text (plain_source v (nat_lt 0 depth) item) (plain_short v (nat_lt 0 depth) item) (omega arith)
    (omega (arith, below, in_r)) (omega (arith, below, in_s)))
    (λ longer few. longer_short (length longer + (80 * count + 1)) most _ _ (omega (arith, few, below))
    (next depth false 0 count longer (omega (arith, few, below, in_r)) (omega (arith, few, below, in_s))))

items_short : (v : DescriptionVersion) (r s : ℕ) (items : List Item) (depth : ℕ) (several : Bool) (skip count : ℕ) (text : List ℕ)
    → length text + (80 * count + 1) ≤ r → length text + (80 * count + 1) ≤ s
    → AreSameAndShort (length text + (80 * count + 1)) (source_from v r depth several items skip count text)
    (source_from v s depth several items skip count text)
unfolding source_from
items_short v r s [] depth several skip count text in_r in_s =
    piece_short r s 0 1 (length text + (80 * count + 1)) text (last_end several) (last_short several) (omega arith) in_r in_s
items_short v r s (item ∷ items) depth several (suc skip) count text in_r in_s = items_short v r s items depth several skip count text in_r in_s
items_short v r s (item ∷ items) depth several zero zero text in_r in_s =
    piece_short r s (length (item ∷ items)) 1 (length text + (80 * zero + 1)) text (last_end several) (last_short several) (omega arith) in_r in_s
items_short v r s (item ∷ items) depth several zero (suc count) text in_r in_s =
    then_short (length text + 1) (length text + (80 * suc count + 1)) _ _ _ _
    (piece_short r s (length (item ∷ items)) 1 (length text + 1) text (end_of_several several item) (several_short several item) (omega arith)
    (omega (arith, in_r)) (omega (arith, in_s)))
    (λ ended few. item_short v r s (length (item ∷ items)) depth (length text + (80 * suc count + 1)) several item count _ _ ended (size_of item)
    (λ d other skip n before r_has s_has. items_short v r s items d other skip n before r_has s_has) (omega (arith, few)) in_r in_s)

-- a text has at most 80 bytes for each item and one more, in a room that has a place for them
pub length-description_source : (v : DescriptionVersion) (room : ℕ) (items : List Item) → 80 * length items + 1 ≤ room
    → IfOk (description_source v room items) (λ text. length text ≤ 80 * length items + 1)
length-description_source v room items enough =
    let most : 0 + (80 * length items + 1) ≡ 80 * length items + 1 = omega arith in
    rw most at (items_short v room room items 0 false 0 (length items) [] (omega (arith, enough)) (omega (arith, enough))).1
