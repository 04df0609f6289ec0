-- Components: each reads what it spells, and what it spells is read where it ends by itself.
use Rattle.std.proofs.Common.{◌≡◌, ◌∙◌, ℕ, ◌+◌, ◌*◌, ◌<◌, ◌≤◌, Bool, true, false, List, [], ◌∷◌, ◌++◌}
use Rattle.std.proofs.Common.{Option, Some, None, refl, sym, ap, nat_eq, inl, decimal, arith}
use Rattle.std.specs.Prelude.{IsTrue, not, ◌||◌}
use Rattle.std.proofs.lemmas.Fmt.{decimal_digit}
use Rattle.rfc3339.specs.FormLemmas.{bind_some}
use Rattle.rfc3339.specs.Reading.{digit_at}
use Rattle.format_descriptions.specs.Modifiers.{is_padded, digit_count, unix_digits, utc_word}
use Rattle.format_descriptions.specs.Names.{name_of_month, name_of_weekday}
use Rattle.format_descriptions.specs.Read.{component_at}
use Rattle.format_descriptions.specs.Reading.{unsigned, nothing, two_at, three_at, fraction_at, month_at, weekday_at, word_at}
use Rattle.format_descriptions.specs.Reading.{weekday_number_at, year_since, year_since_at, in_unit, ignored_at, past_digits, end_at}
use Rattle.format_descriptions.specs.Spelled.{IsText, reads_digits, is_end}
use Rattle.format_descriptions.specs.SpelledPieces.{IsUnsigned, IsSubsecond, first_hour}
use Rattle.format_descriptions.specs.Written.{name_in_form, period_text, weekday_number_by}
use Rattle.format_descriptions.specs.declared.component.Component.{Component}
use Rattle.format_descriptions.specs.declared.component.Component.TheVariants.{Year, YearCentury, YearLastTwo, Month, MonthName, Day}
use Rattle.format_descriptions.specs.declared.component.Component.TheVariants.{Ordinal}
use Rattle.format_descriptions.specs.declared.component.Component.TheVariants.{WeekdayName, WeekdayNumber, WeekNumber, Hour, Hour12, Period}
use Rattle.format_descriptions.specs.declared.component.Component.TheVariants.{Minute}
use Rattle.format_descriptions.specs.declared.component.Component.TheVariants.{Second, Subsecond}
use Rattle.format_descriptions.specs.declared.component.Component.TheVariants.{OffsetHour, OffsetMinute, OffsetSecond, UnixTimestamp}
use Rattle.format_descriptions.specs.declared.component.Component.TheVariants.{Ignore, End}
use Rattle.format_descriptions.specs.declared.component.Component.TheVariants.{IgnoreWeekday, IgnoreDigits, OffsetWord, YearSince, YearSix}
use Rattle.format_descriptions.specs.declared.component.Component.TheVariants.{HourFraction, MinuteFraction}
use Rattle.format_descriptions.specs.declared.modifiers.NameForm.{NameForm}
use Rattle.format_descriptions.specs.declared.modifiers.Padding.{Padding}
use Rattle.format_descriptions.specs.declared.modifiers.ReadCase.{ReadCase}
use Rattle.format_descriptions.specs.declared.modifiers.Sign.TheVariants.{Automatic, Mandatory}
use Rattle.format_descriptions.specs.declared.modifiers.SubsecondDigits.{SubsecondDigits}
use Rattle.format_descriptions.specs.declared.modifiers.UnixPrecision.{UnixPrecision}
use Rattle.format_descriptions.specs.declared.modifiers.UnixPrecision.TheVariants.{Seconds, Milliseconds, Microseconds, Nanoseconds}
use Rattle.format_descriptions.specs.declared.modifiers.WeekStart.{WeekStart}
use Rattle.format_descriptions.specs.declared.modifiers.WeekdayCount.{WeekdayCount}
use Rattle.format_descriptions.specs.declared.modifiers.WeekdayCount.TheVariants.{FromZero, FromOne}
use Rattle.format_descriptions.specs.declared.modifiers.YearRange.TheVariants.{Standard, Extended}
use Rattle.format_descriptions.proofs.NumberAgainLemmas.{weekday_number-again}
use Rattle.format_descriptions.proofs.SpelledDigitLemmas.{Piece}
use Rattle.format_descriptions.proofs.SpelledWidthLemmas.{two_digits-taken, two_digits-again}
use Rattle.format_descriptions.proofs.SpelledFractionLemmas.{fraction-taken, fraction-again, past_digits-taken, past_digits-again}
use Rattle.format_descriptions.proofs.SpelledFractionLemmas.{ignored-taken}
use Rattle.format_descriptions.proofs.SpelledFractionLemmas.{ignored-again, weekday_number-taken}
use Rattle.format_descriptions.proofs.SpelledNumeralLemmas.{two_at-taken, two_at-again, three_at-taken, three_at-again}
use Rattle.format_descriptions.proofs.SpelledSignLemmas.{unsigned-taken, unsigned-again}
use Rattle.format_descriptions.proofs.SpelledSignedLemmas.{year-taken, year-again, century-taken, century-again, hours-taken, hours-again}
use Rattle.format_descriptions.proofs.SpelledSignedLemmas.{unix-taken, unix-again, six-taken, six-again}
use Rattle.format_descriptions.proofs.NameReadLemmas.{month-named, weekday-named}
use Rattle.format_descriptions.proofs.SpelledWordLemmas.{word-taken, word-again, months-again, weekdays-again}
use Rattle.format_descriptions.proofs.SpelledWordLemmas.{period-named, periods-again}

-- ---- what is read is spelled

-- a piece that is another fact too
same_piece : {A B : List ℕ → Type 0} (text rest : List ℕ) → Piece A text rest → ((piece : List ℕ) → A piece → B piece) → Piece B text rest
same_piece text rest got f = record { piece = got.piece; front = got.front; is = f got.piece got.is }

two-taken : (padding : Padding) (text : List ℕ) (n : Bool × ℕ) (rest : List ℕ) → unsigned (two_at padding text) ≡ Some (n, rest)
    → Piece (IsUnsigned padding 2 n) text rest
two-taken padding text n rest h =
    let u = unsigned-taken (two_at padding text) n rest h in
    same_piece text rest (two_at-taken padding text n.1 rest u.1) (λ piece is. (u.0, is))

three-taken : (padding : Padding) (text : List ℕ) (n : Bool × ℕ) (rest : List ℕ) → unsigned (three_at padding text) ≡ Some (n, rest)
    → Piece (IsUnsigned padding 3 n) text rest
three-taken padding text n rest h =
    let u = unsigned-taken (three_at padding text) n rest h in
    same_piece text rest (three_at-taken padding text n.1 rest u.1) (λ piece is. (u.0, is))

nothing-taken : (o : Option (List ℕ)) (n : Bool × ℕ) (rest : List ℕ) → nothing o ≡ Some (n, rest) → (n ≡ (false, 0)) × (o ≡ Some rest)
nothing-taken None n rest h = absurd cc
nothing-taken (Some more) n rest h =
    let pair : ((false, 0), more) ≡ (n, rest) = cc in
    (sym (ap (λ (z : (Bool × ℕ) × List ℕ). z.0) pair), ap (λ (z : (Bool × ℕ) × List ℕ). Some z.1) pair)

month_name-taken : (form : NameForm) (case : ReadCase) (text : List ℕ) (n : Bool × ℕ) (rest : List ℕ)
    → unsigned (month_at form case 12 text) ≡ Some (n, rest) → Piece (IsText (MonthName form case) n) text rest
month_name-taken form case text n rest h =
    let u = unsigned-taken (month_at form case 12 text) n rest h in
    let got = month-named form case 12 n.1 text rest u.1 in
    same_piece text rest (word-taken case (name_in_form form (name_of_month n.1)) text rest got.name_read)
    (λ piece is. (u.0, got.low, got.high, is))

weekday_name-taken : (form : NameForm) (case : ReadCase) (text : List ℕ) (n : Bool × ℕ) (rest : List ℕ)
    → unsigned (weekday_at form case 7 text) ≡ Some (n, rest) → Piece (IsText (WeekdayName form case) n) text rest
weekday_name-taken form case text n rest h =
    let u = unsigned-taken (weekday_at form case 7 text) n rest h in
    let got = weekday-named form case 7 n.1 text rest u.1 in
    same_piece text rest (word-taken case (name_in_form form (name_of_weekday n.1)) text rest got.name_read)
    (λ piece is. (u.0, omega (arith, got.high), is))

year_since-taken : (first : ℕ) (text : List ℕ) (n : Bool × ℕ) (rest : List ℕ) → unsigned (year_since_at first text) ≡ Some (n, rest)
    → Piece (IsText (YearSince first) n) text rest
unfolding year_since_at
year_since-taken first text n rest h =
    let u = unsigned-taken (year_since_at first text) n rest h in
    let two = bind_some _ _ _ u.1 in
    let is : Some (year_since first two.0.0, two.0.1) ≡ Some (n.1, rest) = two.2 in
    let pair : (year_since first two.0.0, two.0.1) ≡ (n.1, rest) = cc in
    let got = two_digits-taken text two.0.0 two.0.1 two.1 in
    record {
      piece = got.piece;
      front = got.front ∙ ap (λ (z : ℕ × List ℕ). got.piece ++ z.1) pair;
      is = (u.0, two.0.0, got.is, sym (ap (λ (z : ℕ × List ℕ). z.0) pair));
    }

-- a fraction of so many units
abbrev IsPart : ℕ → ℕ → Bool × ℕ → List ℕ → Type 0
IsPart unit count n piece = (n.0 ≡ false) × (part : ℕ) × IsSubsecond count part piece × (n.1 ≡ part * unit)

part-taken : (unit count : ℕ) (text : List ℕ) (n : Bool × ℕ) (rest : List ℕ)
    → unsigned (in_unit unit (fraction_at count text)) ≡ Some (n, rest)
    → Piece (IsPart unit count n) text rest
part-taken unit count text n rest h =
    let u = unsigned-taken (in_unit unit (fraction_at count text)) n rest h in
    let read = bind_some _ _ _ u.1 in
    let is : Some (read.0.0 * unit, read.0.1) ≡ Some (n.1, rest) = read.2 in
    let pair : (read.0.0 * unit, read.0.1) ≡ (n.1, rest) = cc in
    let got = fraction-taken count text read.0.0 read.0.1 read.1 in
    record {
      piece = got.piece;
      front = got.front ∙ ap (λ (z : ℕ × List ℕ). got.piece ++ z.1) pair;
      is = (u.0, read.0.0, got.is, sym (ap (λ (z : ℕ × List ℕ). z.0) pair));
    }

end-taken : (text : List ℕ) (n : Bool × ℕ) (rest : List ℕ) → nothing (end_at text) ≡ Some (n, rest) → Piece (IsText End n) text rest
end-taken [] n rest h =
    let got = nothing-taken (end_at []) n rest h in
    let same : [] ≡ rest = let is : Some [] ≡ Some rest = got.1 in cc in record { piece = []; front = same; is = (got.0, refl) }
end-taken (first ∷ text) n rest h = absurd cc

some_digits : (precision : UnixPrecision) → 1 ≤ unix_digits precision
some_digits Seconds = omega arith
some_digits Milliseconds = omega arith
some_digits Microseconds = omega arith
some_digits Nanoseconds = omega arith

pub component-taken : (c : Component) (text : List ℕ) (n : Bool × ℕ) (rest : List ℕ) → component_at c text ≡ Some (n, rest)
    → Piece (IsText c n) text rest
unfolding component_at
component-taken (Year base sign padding range) text n rest h = year-taken sign padding range text n rest h
component-taken (YearCentury base sign padding range) text n rest h = century-taken sign padding range text n rest h
component-taken (YearLastTwo base padding) text n rest h = two-taken padding text n rest h
component-taken (Month padding) text n rest h = two-taken padding text n rest h
component-taken (MonthName form case) text n rest h = month_name-taken form case text n rest h
component-taken (Day padding) text n rest h = two-taken padding text n rest h
component-taken (Ordinal padding) text n rest h = three-taken padding text n rest h
component-taken (WeekdayName form case) text n rest h = weekday_name-taken form case text n rest h
component-taken (WeekdayNumber start count) text n rest h =
    let u = unsigned-taken (weekday_number_at start count text) n rest h in
    same_piece text rest (weekday_number-taken start count text n.1 rest u.1) (λ piece is. (u.0, is.0, is.1))
component-taken (WeekNumber rule padding) text n rest h = two-taken padding text n rest h
component-taken (Hour padding) text n rest h = two-taken padding text n rest h
component-taken (Hour12 padding) text n rest h = two-taken padding text n rest h
component-taken (Period case read) text n rest h =
    let got = period-named case read text n rest h in
    same_piece text rest (word-taken read (period_text case (first_hour n.0)) text rest got.1) (λ piece is. (got.0, is))
component-taken (Minute padding) text n rest h = two-taken padding text n rest h
component-taken (Second padding) text n rest h = two-taken padding text n rest h
component-taken (Subsecond digits) text n rest h =
    let u = unsigned-taken (fraction_at (digit_count digits) text) n rest h in
    same_piece text rest (fraction-taken (digit_count digits) text n.1 rest u.1) (λ piece is. (u.0, is))
component-taken (OffsetHour sign padding) text n rest h = hours-taken sign padding text n rest h
component-taken (OffsetMinute padding) text n rest h = two-taken padding text n rest h
component-taken (OffsetSecond padding) text n rest h = two-taken padding text n rest h
component-taken (UnixTimestamp precision sign) text n rest h = unix-taken sign (unix_digits precision) text n rest (some_digits precision) h
component-taken (Ignore count) text n rest h =
    let got = nothing-taken (ignored_at count text) n rest h in
    same_piece text rest (ignored-taken count text rest got.1) (λ piece is. (got.0, is))
component-taken End text n rest h = end-taken text n rest h
component-taken (IgnoreWeekday form case) text n rest h = weekday_name-taken form case text n rest h
component-taken IgnoreDigits text n rest h =
    let got = nothing-taken (past_digits text) n rest h in
    same_piece text rest (past_digits-taken text rest got.1) (λ piece is. (got.0, is.0, is.1))
component-taken (OffsetWord word case) text n rest h =
    let got = nothing-taken (word_at case (utc_word word) text) n rest h in
    same_piece text rest (word-taken case (utc_word word) text rest got.1) (λ piece is. (got.0, is))
component-taken (YearSince first) text n rest h = year_since-taken first text n rest h
component-taken (YearSix base) text n rest h = six-taken text n rest h
component-taken (HourFraction digits) text n rest h = part-taken 3_600 (digit_count digits) text n rest h
component-taken (MinuteFraction digits) text n rest h = part-taken 60 (digit_count digits) text n rest h

-- ---- what is spelled is read

two-again : (padding : Padding) (n : Bool × ℕ) (piece rest : List ℕ) → (IsTrue (not (is_padded padding)) → digit_at rest ≡ None)
    → IsUnsigned padding 2 n piece → unsigned (two_at padding (piece ++ rest)) ≡ Some (n, rest)
two-again padding n piece rest apart is =
    unsigned-again (two_at padding (piece ++ rest)) n rest is.0 (two_at-again padding n.1 piece rest is.1 (λ h. inl (apart h)))

three-again : (padding : Padding) (n : Bool × ℕ) (piece rest : List ℕ) → (IsTrue (not (is_padded padding)) → digit_at rest ≡ None)
    → IsUnsigned padding 3 n piece → unsigned (three_at padding (piece ++ rest)) ≡ Some (n, rest)
three-again padding n piece rest apart is =
    unsigned-again (three_at padding (piece ++ rest)) n rest is.0 (three_at-again padding n.1 piece rest is.1 (λ h. inl (apart h)))

nothing-again : (o : Option (List ℕ)) (n : Bool × ℕ) (rest : List ℕ) → n ≡ (false, 0) → o ≡ Some rest → nothing o ≡ Some (n, rest)
nothing-again o n rest none h = rw h (ap (λ (k : Bool × ℕ). Some (k, rest)) (sym none))

no_count : (digits : SubsecondDigits) → digit_count digits ≡ 0 → nat_eq (digit_count digits) 0 ≡ true
no_count digits e = rw e refl

pub weekday_number-below : (start : WeekStart) (count : WeekdayCount) (n : ℕ) → weekday_number_by start count n < 10
unfolding weekday_number_by
weekday_number-below start FromZero n = omega arith
weekday_number-below start FromOne n = omega arith

weekday_number-read : (start : WeekStart) (count : WeekdayCount) (n : ℕ) (piece rest : List ℕ) → n < 7
    → piece ≡ (48 + weekday_number_by start count n) ∷ [] → weekday_number_at start count (piece ++ rest) ≡ Some (n, rest)
weekday_number-read start count n piece rest low e =
    let written : piece ≡ decimal (weekday_number_by start count n) =
    e ∙ sym (decimal_digit (weekday_number_by start count n) (weekday_number-below start count n))
    in
    ap (λ (z : List ℕ). weekday_number_at start count (z ++ rest)) written ∙ weekday_number-again start count n rest low

part-again : (unit count : ℕ) (n : Bool × ℕ) (piece rest : List ℕ) → (count ≡ 0 → digit_at rest ≡ None) → IsPart unit count n piece
    → unsigned (in_unit unit (fraction_at count (piece ++ rest))) ≡ Some (n, rest)
part-again unit count n piece rest apart is =
    unsigned-again (in_unit unit (fraction_at count (piece ++ rest))) n rest is.0
    (ap (λ o. in_unit unit o) (fraction-again count is.1 piece rest apart is.2) ∙ ap (λ (v : ℕ). Some (v, rest)) (sym is.3))

year_since-again : (first : ℕ) (n : Bool × ℕ) (piece rest : List ℕ) → IsText (YearSince first) n piece
    → unsigned (year_since_at first (piece ++ rest)) ≡ Some (n, rest)
unfolding year_since_at
year_since-again first n piece rest is =
    unsigned-again (year_since_at first (piece ++ rest)) n rest is.0
    (rw (two_digits-again is.1 piece rest is.2) (ap (λ (v : ℕ). Some (v, rest)) (sym is.3)))

or_left : (a b : Bool) → IsTrue a → IsTrue (a || b)
or_left a b h = rw h refl

pub component-again : (c : Component) (n : Bool × ℕ) (piece rest : List ℕ) → (IsTrue (reads_digits c) → digit_at rest ≡ None)
    → (IsTrue (is_end c) → rest ≡ []) → IsText c n piece → component_at c (piece ++ rest) ≡ Some (n, rest)
unfolding component_at
component-again (Year base Automatic padding Standard) n piece rest apart end is =
    year-again Automatic padding Standard n piece rest (λ h. apart (or_left (not (is_padded padding)) false h)) (λ h. absurd cc) is
component-again (Year base Mandatory padding Standard) n piece rest apart end is =
    year-again Mandatory padding Standard n piece rest (λ h. apart (or_left (not (is_padded padding)) false h)) (λ h. absurd cc) is
component-again (Year base sign padding Extended) n piece rest apart end is =
    year-again sign padding Extended n piece rest (λ h. apart refl) (λ h. apart refl) is
component-again (YearCentury base Automatic padding Standard) n piece rest apart end is =
    century-again Automatic padding Standard n piece rest (λ h. apart (or_left (not (is_padded padding)) false h)) (λ h. absurd cc) is
component-again (YearCentury base Mandatory padding Standard) n piece rest apart end is =
    century-again Mandatory padding Standard n piece rest (λ h. apart (or_left (not (is_padded padding)) false h)) (λ h. absurd cc) is
component-again (YearCentury base sign padding Extended) n piece rest apart end is =
    century-again sign padding Extended n piece rest (λ h. apart refl) (λ h. apart refl) is
component-again (YearLastTwo base padding) n piece rest apart end is = two-again padding n piece rest apart is
component-again (Month padding) n piece rest apart end is = two-again padding n piece rest apart is
component-again (MonthName form case) n piece rest apart end is =
    unsigned-again (month_at form case 12 (piece ++ rest)) n rest is.0 (months-again form case n.1 piece rest is.1 is.2 is.3)
component-again (Day padding) n piece rest apart end is = two-again padding n piece rest apart is
component-again (Ordinal padding) n piece rest apart end is = three-again padding n piece rest apart is
component-again (WeekdayName form case) n piece rest apart end is =
    unsigned-again (weekday_at form case 7 (piece ++ rest)) n rest is.0 (weekdays-again form case n.1 piece rest is.1 is.2)
component-again (WeekdayNumber start count) n piece rest apart end is =
    unsigned-again (weekday_number_at start count (piece ++ rest)) n rest is.0 (weekday_number-read start count n.1 piece rest is.1 is.2)
component-again (WeekNumber rule padding) n piece rest apart end is = two-again padding n piece rest apart is
component-again (Hour padding) n piece rest apart end is = two-again padding n piece rest apart is
component-again (Hour12 padding) n piece rest apart end is = two-again padding n piece rest apart is
component-again (Period case read) n piece rest apart end is =
    periods-again case read n.0 piece rest is.1 ∙ ap (λ (k : ℕ). Some ((n.0, k), rest)) (sym is.0)
component-again (Minute padding) n piece rest apart end is = two-again padding n piece rest apart is
component-again (Second padding) n piece rest apart end is = two-again padding n piece rest apart is
component-again (Subsecond digits) n piece rest apart end is =
    unsigned-again (fraction_at (digit_count digits) (piece ++ rest)) n rest is.0
    (fraction-again (digit_count digits) n.1 piece rest (λ e. apart (no_count digits e)) is.1)
component-again (OffsetHour sign padding) n piece rest apart end is = hours-again sign padding n piece rest apart is
component-again (OffsetMinute padding) n piece rest apart end is = two-again padding n piece rest apart is
component-again (OffsetSecond padding) n piece rest apart end is = two-again padding n piece rest apart is
component-again (UnixTimestamp precision sign) n piece rest apart end is =
    unix-again sign (unix_digits precision) n piece rest (some_digits precision) (apart refl) is
component-again (Ignore count) n piece rest apart end is =
    nothing-again (ignored_at count (piece ++ rest)) n rest is.0 (ignored-again count piece rest is.1)
component-again End n piece rest apart end is = rw (is.1, end refl) (ap (λ (k : Bool × ℕ). Some (k, [])) (sym is.0))
component-again (IgnoreWeekday form case) n piece rest apart end is =
    unsigned-again (weekday_at form case 7 (piece ++ rest)) n rest is.0 (weekdays-again form case n.1 piece rest is.1 is.2)
component-again IgnoreDigits n piece rest apart end is =
    nothing-again (past_digits (piece ++ rest)) n rest is.0 (past_digits-again piece rest (apart refl) (is.1, is.2))
component-again (OffsetWord word case) n piece rest apart end is =
    nothing-again (word_at case (utc_word word) (piece ++ rest)) n rest is.0 (word-again case (utc_word word) piece rest is.1)
component-again (YearSince first) n piece rest apart end is = year_since-again first n piece rest is
component-again (YearSix base) n piece rest apart end is = six-again n piece rest is
component-again (HourFraction digits) n piece rest apart end is =
    part-again 3_600 (digit_count digits) n piece rest (λ e. apart (no_count digits e)) is
component-again (MinuteFraction digits) n piece rest apart end is =
    part-again 60 (digit_count digits) n piece rest (λ e. apart (no_count digits e)) is
