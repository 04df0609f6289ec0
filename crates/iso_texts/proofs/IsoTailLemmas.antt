-- A date-time of ISO 8601 is one of RFC 3339, with a longer year or seconds of its offset.
use Rattle.std.proofs.Common.{◌≡◌, inl, inr, ℕ, ◌+◌, ◌-◌, ◌*◌, ◌/◌, ◌%◌, ◌<◌, Bool, true, false, nat_eq, List, [], ◌∷◌, ◌++◌}
use Rattle.std.proofs.Common.{append_assoc, append-nil, Option, Some, None, refl, sym, ap, subst, ◌∙◌, arith}
use Rattle.std.specs.Prelude.{codes, IsTrue}
use Rattle.std.specs.Char.{is_ascii_digit}
use Rattle.std.proofs.lemmas.Bool.Decides.{nat_tests}
use Rattle.std.proofs.lemmas.Bool.{and_parts}
use Rattle.std.proofs.lemmas.Option.{same_Some}
use Rattle.calendar_values.specs.Digits.{last_digits}
use Rattle.rfc3339.specs.Form.{is_separator, spelling, IsFraction, IsOffsetText, FitsDigits, IsDateTime}
use Rattle.rfc3339.specs.FormLemmas.{Takes, TakesSeparator, bind_some, two_takes, two_again, part_takes, part_again, year_takes, year_again}
use Rattle.rfc3339.specs.FormLemmas.{separator_takes, separator_again}
use Rattle.rfc3339.specs.FractionLemmas.{TakesFraction, EndsFraction, fraction_takes, fraction_again, zone_takes, zone_again, offset_ends}
use Rattle.rfc3339.specs.Reading.{parts_read, zone_at}
use Rattle.rfc3339.specs.declared.parts.Parts.{Parts}
use Rattle.iso_texts.specs.IsoFaults.{offset_on, is_whole, is_signed_offset, has_signed_offset, IsPlain, IsTail, IsIso}
use Rattle.iso_texts.specs.IsoForms.{sign, IsYearText, of_four, of_six, hours_and_minutes, IsIsoOffsetText, to_minute, to_second, after_year, IsIsoDateTime}
use Rattle.iso_texts.specs.IsoReading.{is_sign, begins_with_sign, iso_parts_read}
use Rattle.iso_texts.specs.declared.parts.IsoParts.{IsoParts}
use Rattle.iso_texts.proofs.IsoOffsetLemmas.{signed, signed_offset}
use Rattle.iso_texts.proofs.IsoYearLemmas.{last_six, last_four, sign_is, digit_no_sign}

-- ---- a date-time of RFC 3339 whose offset has a sign

offset_on-spelled : (p : Parts) (separator : ℕ) (fraction offset : List ℕ) → FitsDigits p → IsTrue (is_separator separator)
    → IsFraction fraction p.nanosecond → EndsFraction offset → offset_on (spelling p separator fraction offset) ≡ Some offset
unfolding offset_on
offset_on-spelled p separator fraction offset f s is ends =
    simp append_assoc
    (rw (year_again p.year _ f.year, part_again 45 p.month _ f.month, part_again 45 p.day _ f.day, separator_again separator _ s)
    (rw (two_again p.hour _ f.hour, part_again 58 p.minute _ f.minute, part_again 58 p.second _ f.second)
    (rw (fraction_again fraction p.nanosecond offset is ends) refl)))

signed-spelled : (p : Parts) (separator : ℕ) (fraction : List ℕ) → FitsDigits p → IsTrue (is_separator separator) → IsFraction fraction p.nanosecond
    → has_signed_offset (spelling p separator fraction (hours_and_minutes p.is_west p.offset_hour p.offset_minute)) ≡ true
unfolding has_signed_offset
signed-spelled p separator fraction f s is =
    let offset = hours_and_minutes p.is_west p.offset_hour p.offset_minute in
    let form : IsOffsetText offset p.is_west p.offset_hour p.offset_minute = inr refl in
    let ends = rw (append-nil offset) at (offset_ends offset p.is_west p.offset_hour p.offset_minute [] form) in
    let zone = rw (append-nil offset) at (zone_again offset p.is_west p.offset_hour p.offset_minute [] form f.offset_hour f.offset_minute) in
    let starts = rw (append-nil offset) at (signed p.is_west p.offset_hour p.offset_minute []) in
    rw (offset_on-spelled p separator fraction offset f s is ends, starts, zone) refl

-- its form, with the offset that it has
pub record IsSigned (text : List ℕ) : Type 0 where
  pub p : Parts
  pub is : IsDateTime text p
  pub numbers : is.offset ≡ hours_and_minutes p.is_west p.offset_hour p.offset_minute

-- the pieces of a date-time, one after another
signed_pieces : {text t1 t2 t3 t4 t5 t6 t7 fraction offset : List ℕ} {separator : ℕ} (p : Parts) → Takes text (last_digits 4 p.year) t1 p.year 10_000
    → Takes t1 (45 ∷ last_digits 2 p.month) t2 p.month 100 → Takes t2 (45 ∷ last_digits 2 p.day) t3 p.day 100 → TakesSeparator t3 separator t4
    → Takes t4 (last_digits 2 p.hour) t5 p.hour 100 → Takes t5 (58 ∷ last_digits 2 p.minute) t6 p.minute 100
    → Takes t6 (58 ∷ last_digits 2 p.second) t7 p.second 100 → TakesFraction t7 fraction p.nanosecond offset
    → IsOffsetText offset p.is_west p.offset_hour p.offset_minute → p.offset_hour < 100 → p.offset_minute < 100
    → offset ≡ hours_and_minutes p.is_west p.offset_hour p.offset_minute → IsSigned text
signed_pieces {fraction = fraction} {offset = offset} {separator = separator} p y mo d s h mi sec f z hour minute e = record {
  p = p;
  is = record {
    separator = separator;
    fraction = fraction;
    offset = offset;
    spelled = rw (y.parts, mo.parts, d.parts, s.parts, h.parts, mi.parts, sec.parts, f.parts) (simp append_assoc refl);
    is_separator = s.is;
    is_fraction = f.is;
    is_offset = z;
    fits = omega arith;
  };
  numbers = e;
}

whole_zone : (o : Option ((Bool × ℕ × ℕ) × List ℕ)) → is_whole o ≡ true → (zone : Bool × ℕ × ℕ) × (o ≡ Some (zone, []))
whole_zone None e = absurd cc
whole_zone (Some (zone, [])) e = (zone, refl)
whole_zone (Some (zone, first ∷ rest)) e = absurd cc

signed_by : (text : List ℕ) (o : Option (List ℕ)) → offset_on text ≡ o → is_signed_offset o ≡ true → IsSigned text
unfolding offset_on
signed_by text None e h = absurd cc
signed_by text (Some rest) e h =
    let both = and_parts (begins_with_sign rest) (is_whole (zone_at rest)) h in
    let zone = whole_zone (zone_at rest) both.1 in
    let year = bind_some _ _ _ e in
    let month = bind_some _ _ _ year.2 in
    let day = bind_some _ _ _ month.2 in
    let clock = bind_some _ _ _ day.2 in
    let hour = bind_some _ _ _ clock.2 in
    let minute = bind_some _ _ _ hour.2 in
    let second = bind_some _ _ _ minute.2 in
    let fraction = bind_some _ _ _ second.2 in
    let s = separator_takes _ _ clock.1 in
    let f = fraction_takes _ _ _ fraction.1 in
    let z = zone_takes rest zone.0.0 zone.0.1 zone.0.2 [] zone.1 in
    let all : rest ≡ z.0 = z.1.parts ∙ append-nil z.0 in
    let f_rest : TakesFraction second.0.1 f.0 fraction.0.0 rest =
    subst (λ (x : List ℕ). TakesFraction second.0.1 f.0 fraction.0.0 x) (same_Some fraction.0.1 rest fraction.2) f.1 in
    let form : IsOffsetText rest zone.0.0 zone.0.1 zone.0.2 = subst (λ (x : List ℕ). IsOffsetText x zone.0.0 zone.0.1 zone.0.2) (sym all) z.1.is in
    let starts : begins_with_sign (rest ++ []) ≡ true = ap begins_with_sign (append-nil rest) ∙ both.0 in
    signed_pieces (parts_read year.0.0 month.0.0 day.0.0 hour.0.0 minute.0.0 second.0.0 fraction.0.0 zone.0)
    (year_takes _ _ _ year.1) (part_takes 45 _ _ _ month.1) (part_takes 45 _ _ _ day.1) s.1 (two_takes _ _ _ hour.1)
    (part_takes 58 _ _ _ minute.1) (part_takes 58 _ _ _ second.1) f_rest form z.1.hour_fits z.1.minute_fits
    (signed_offset rest [] zone.0.0 zone.0.1 zone.0.2 form starts)

pub signed_of : (text : List ℕ) → has_signed_offset text ≡ true → IsSigned text
unfolding has_signed_offset
signed_of text h = signed_by text (offset_on text) refl h

-- ---- with more of a year in front, and seconds behind

-- the numbers, with another year and seconds of the offset
abbrev longer : Bool → ℕ → Parts → ℕ → IsoParts
longer is_before year p second =
    iso_parts_read (is_before, year) p.month p.day p.hour p.minute p.second p.nanosecond ((p.is_west, p.offset_hour, p.offset_minute), second)

iso_of_plain : (before text : List ℕ) (is_before : Bool) (year : ℕ) (p : Parts) → IsDateTime text p
    → IsYearText (before ++ last_digits 4 p.year) is_before year → IsIsoDateTime (before ++ text) (longer is_before year p 0)
iso_of_plain before text is_before year p h is = record {
  year = before ++ last_digits 4 p.year;
  separator = h.separator;
  fraction = h.fraction;
  offset = h.offset;
  spelled = ap (λ (z : List ℕ). before ++ z) h.spelled ∙ simp append_assoc refl;
  is_year = is;
  is_separator = h.is_separator;
  is_fraction = h.is_fraction;
  is_offset = to_minute h.is_offset refl;
  fits = omega (arith, h.fits);
}

iso_of_seconds : (before text : List ℕ) (is_before : Bool) (year second : ℕ) (s : IsSigned text) → second < 60
    → IsYearText (before ++ last_digits 4 s.p.year) is_before year
    → IsIsoDateTime (before ++ (text ++ (codes ":" ++ last_digits 2 second))) (longer is_before year s.p second)
iso_of_seconds before text is_before year second s low is =
    let h = s.is in
    let after = codes ":" ++ last_digits 2 second in
    let offset = hours_and_minutes s.p.is_west s.p.offset_hour s.p.offset_minute in
    let whole : text ≡ spelling s.p h.separator h.fraction offset = h.spelled ∙ ap (spelling s.p h.separator h.fraction) s.numbers in
    record {
      year = before ++ last_digits 4 s.p.year;
      separator = h.separator;
      fraction = h.fraction;
      offset = offset ++ after;
      spelled = ap (λ (z : List ℕ). before ++ (z ++ after)) whole ∙ simp append_assoc refl;
      is_year = is;
      is_separator = h.is_separator;
      is_fraction = h.is_fraction;
      is_offset = to_second refl low;
      fits = omega (arith, h.fits);
    }

-- what makes a year with four digits after it
abbrev pub MakesYears : List ℕ → Type 0
MakesYears before = (year : ℕ) → year < 10_000 → (is_before : Bool) × (number : ℕ) × IsYearText (before ++ last_digits 4 year) is_before number

pub iso_of_tail : (before text : List ℕ) → MakesYears before → IsTail text → IsIso (before ++ text)
iso_of_tail before text years (inl (p, h)) =
    let year = years p.year h.fits.year in
    (longer year.0 year.1 p 0, iso_of_plain before text year.0 year.1 p h year.2)
iso_of_tail before text years (inr (front, after, is, sign, inl none, e)) =
    let year = years is.0.year is.1.fits.year in
    let whole : text ≡ front = e ∙ ap (λ (z : List ℕ). front ++ z) none ∙ append-nil front in (
      longer year.0 year.1 is.0 0,
      subst (λ (z : List ℕ). IsIsoDateTime (before ++ z) (longer year.0 year.1 is.0 0)) (sym whole)
          (iso_of_plain before front year.0 year.1 is.0 is.1 year.2),
    )
iso_of_tail before text years (inr (front, after, is, sign, inr (second, low, some), e)) =
    let s = signed_of front sign in
    let year = years s.p.year s.is.fits.year in
    let whole : text ≡ front ++ (codes ":" ++ last_digits 2 second) = e ∙ ap (λ (z : List ℕ). front ++ z) some in (
      longer year.0 year.1 s.p second,
      subst (λ (z : List ℕ). IsIsoDateTime (before ++ z) (longer year.0 year.1 s.p second)) (sym whole)
          (iso_of_seconds before front year.0 year.1 second s low year.2),
    )

pub four_make_years : MakesYears []
four_make_years year low = (false, year, of_four low refl refl)

two_digits_are : (a b : ℕ) → is_ascii_digit a ≡ true → is_ascii_digit b ≡ true → last_digits 2 ((a - 48) * 10 + (b - 48)) ≡ a ∷ b ∷ []
unfolding last_digits
two_digits_are a b d e = grind (arith, nat_tests)

six_of : (byte a b year : ℕ) → is_sign byte ≡ true → is_ascii_digit a ≡ true → is_ascii_digit b ≡ true → year < 10_000
    → IsYearText (byte ∷ a ∷ b ∷ last_digits 4 year) (nat_eq byte 45) (((a - 48) * 10 + (b - 48)) * 10_000 + year)
six_of byte a b year s d e low =
    let front = (a - 48) * 10 + (b - 48) in
    let n = front * 10_000 + year in
    let high : n / 10_000 ≡ front = omega arith in
    let first : last_digits 2 (n / 10_000) ≡ a ∷ b ∷ [] = ap (last_digits 2) high ∙ two_digits_are a b d e in
    let digits : last_digits 6 n ≡ a ∷ b ∷ last_digits 4 year =
    last_six n ∙ ap (λ (z : List ℕ). z ++ last_digits 4 n) first ∙ ap (λ (z : List ℕ). a ∷ b ∷ z) (last_four front year low) in
    let room : front < 100 = grind (arith, nat_tests) in
    of_six (omega arith) (ap (λ (z : List ℕ). byte ∷ z) (sym digits) ∙ ap (λ (z : List ℕ). z ++ last_digits 6 n) (sign_is byte s))

pub six_make_years : (byte a b : ℕ) → is_sign byte ≡ true → is_ascii_digit a ≡ true → is_ascii_digit b ≡ true → MakesYears (byte ∷ a ∷ b ∷ [])
six_make_years byte a b s d e year low = (nat_eq byte 45, ((a - 48) * 10 + (b - 48)) * 10_000 + year, six_of byte a b year s d e low)

-- ---- without them

tail_of : (year separator : ℕ) (p : IsoParts) (fraction offset : List ℕ) → year < 10_000
    → IsIsoOffsetText offset p.is_west p.offset_hour p.offset_minute p.offset_second
    → IsTrue (is_separator separator) → IsFraction fraction p.nanosecond
    → FitsDigits (parts_read year p.month p.day p.hour p.minute p.second p.nanosecond (p.is_west, p.offset_hour, p.offset_minute))
    → IsTail (last_digits 4 year ++ after_year p separator ++ fraction ++ offset)
tail_of year separator p fraction offset low (to_minute is none) s f fits =
    inl (
      parts_read year p.month p.day p.hour p.minute p.second p.nanosecond (p.is_west, p.offset_hour, p.offset_minute),
      record {
        separator = separator;
        fraction = fraction;
        offset = offset;
        spelled = simp append_assoc refl;
        is_separator = s;
        is_fraction = f;
        is_offset = is;
        fits = fits;
      },
    )
tail_of year separator p fraction offset low (to_second e below) s f fits =
    let q = parts_read year p.month p.day p.hour p.minute p.second p.nanosecond (p.is_west, p.offset_hour, p.offset_minute) in
    let numbers = hours_and_minutes p.is_west p.offset_hour p.offset_minute in
    let front = spelling q separator fraction numbers in
    let after = codes ":" ++ last_digits 2 p.offset_second in
    let plain : IsPlain front = (
      q,
      record {
        separator = separator;
        fraction = fraction;
        offset = numbers;
        spelled = refl;
        is_separator = s;
        is_fraction = f;
        is_offset = inr refl;
        fits = fits;
      },
    ) in
    let whole : last_digits 4 year ++ after_year p separator ++ fraction ++ offset ≡ front ++ after =
    ap (λ (z : List ℕ). last_digits 4 year ++ after_year p separator ++ fraction ++ z) e ∙ simp append_assoc refl in
    inr (front, after, plain, signed-spelled q separator fraction fits s f, inr (p.offset_second, below, refl), whole)

fits_of : (year : ℕ) (text : List ℕ) (p : IsoParts) → year < 10_000 → IsIsoDateTime text p
    → FitsDigits (parts_read year p.month p.day p.hour p.minute p.second p.nanosecond (p.is_west, p.offset_hour, p.offset_minute))
fits_of year text p low h = omega (arith, h.fits)

-- a text that begins with no sign
plain_by : (byte : ℕ) (rest year : List ℕ) (p : IsoParts) (h : IsIsoDateTime (byte ∷ rest) p) → is_sign byte ≡ false
    → IsYearText h.year p.is_before p.year → IsTail (byte ∷ rest)
plain_by byte rest year p h s (of_four low after e) =
    let whole : byte ∷ rest ≡ last_digits 4 p.year ++ after_year p h.separator ++ h.fraction ++ h.offset =
    h.spelled ∙ ap (λ (z : List ℕ). z ++ after_year p h.separator ++ h.fraction ++ h.offset) e in
    subst IsTail (sym whole)
    (tail_of p.year h.separator p h.fraction h.offset low h.is_offset h.is_separator h.is_fraction (fits_of p.year (byte ∷ rest) p low h))
plain_by byte rest year p h s (of_six low e) =
    let whole : byte ∷ rest ≡ sign p.is_before ++ last_digits 6 p.year ++ after_year p h.separator ++ h.fraction ++ h.offset =
    h.spelled ∙ ap (λ (z : List ℕ). z ++ after_year p h.separator ++ h.fraction ++ h.offset) e in
    let more = last_digits 6 p.year ++ after_year p h.separator ++ h.fraction ++ h.offset in
    let apart : byte ∷ rest ≡ sign p.is_before ++ (last_digits 6 p.year ++ after_year p h.separator ++ h.fraction ++ h.offset) =
    whole ∙ simp append_assoc refl in
    absurd (no_sign p.is_before byte rest more s apart) where
      no_sign : (b : Bool) (byte : ℕ) (rest more : List ℕ) → is_sign byte ≡ false → byte ∷ rest ≡ sign b ++ more → ⊥
      no_sign true byte rest more s e = let same : byte ≡ 45 = cc in let bad = rw same at s in absurd cc
      no_sign false byte rest more s e = let same : byte ≡ 43 = cc in let bad = rw same at s in absurd cc

pub tail_of_iso : (byte : ℕ) (rest : List ℕ) → is_sign byte ≡ false → IsIso (byte ∷ rest) → IsTail (byte ∷ rest)
tail_of_iso byte rest s (p, h) = plain_by byte rest h.year p h s h.is_year

-- a text that begins with a sign
pub record IsAfterSign (text : List ℕ) : Type 0 where
  pub a : ℕ
  pub b : ℕ
  pub tail : List ℕ
  pub a_is : is_ascii_digit a ≡ true
  pub b_is : is_ascii_digit b ≡ true
  pub tail_is : IsTail tail
  pub whole : text ≡ a ∷ b ∷ tail

digit_is : (n : ℕ) → is_ascii_digit (48 + n % 10) ≡ true
digit_is n = grind (arith, nat_tests)

signed_rest : (byte : ℕ) (rest : List ℕ) (p : IsoParts) (h : IsIsoDateTime (byte ∷ rest) p) → is_sign byte ≡ true
    → IsYearText h.year p.is_before p.year → IsAfterSign rest
unfolding last_digits
signed_rest byte rest p h s (of_four low after e) =
    let whole : byte ∷ rest ≡ last_digits 4 p.year ++ after_year p h.separator ++ h.fraction ++ h.offset =
    h.spelled ∙ ap (λ (z : List ℕ). z ++ after_year p h.separator ++ h.fraction ++ h.offset) e in
    let same : byte ≡ 48 + p.year / 10 / 10 / 10 % 10 = cc in
    let no = digit_no_sign (p.year / 10 / 10 / 10 % 10) in
    let bad = rw (same, no) at s in absurd cc
signed_rest byte rest p h s (of_six low e) =
    let n = p.year in
    let small : n % 10_000 < 10_000 = omega arith in
    let whole_year : n / 10_000 * 10_000 + n % 10_000 ≡ n = omega arith in
    let back : last_digits 4 n ≡ last_digits 4 (n % 10_000) = sym (ap (last_digits 4) whole_year) ∙ last_four (n / 10_000) (n % 10_000) small in
    let tail = last_digits 4 (n % 10_000) ++ after_year p h.separator ++ h.fraction ++ h.offset in
    let digits : last_digits 6 n ≡ last_digits 2 (n / 10_000) ++ last_digits 4 (n % 10_000) =
    last_six n ∙ ap (λ (z : List ℕ). last_digits 2 (n / 10_000) ++ z) back in
    let whole : byte ∷ rest ≡ sign p.is_before ++ (last_digits 2 (n / 10_000) ++ tail) =
    h.spelled ∙ ap (λ (z : List ℕ). z ++ after_year p h.separator ++ h.fraction ++ h.offset) (e ∙ ap (λ (z : List ℕ). sign p.is_before ++ z) digits)
    ∙ simp append_assoc refl in
    record {
      a = 48 + n / 10_000 / 10 % 10;
      b = 48 + n / 10_000 % 10;
      tail = tail;
      a_is = digit_is (n / 10_000 / 10);
      b_is = digit_is (n / 10_000);
      tail_is =
          tail_of (n % 10_000) h.separator p h.fraction h.offset small h.is_offset h.is_separator h.is_fraction
          (fits_of (n % 10_000) (byte ∷ rest) p small h);
      whole = after_one p.is_before byte rest _ whole;
    } where
      after_one : (is_below : Bool) (byte : ℕ) (rest more : List ℕ) → byte ∷ rest ≡ sign is_below ++ more → rest ≡ more
      after_one true byte rest more e = cc
      after_one false byte rest more e = cc

pub after_sign : (byte : ℕ) (rest : List ℕ) → is_sign byte ≡ true → IsIso (byte ∷ rest) → IsAfterSign rest
after_sign byte rest s (p, h) = signed_rest byte rest p h s h.is_year
