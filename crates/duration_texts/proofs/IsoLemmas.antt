-- The form of ISO 8601 that is read is that of the grammar, and the other way round.
use Rattle.std.proofs.Common.{◌≡◌, ◌⊎◌, inl, inr, refl, sym, ap, subst, ◌∙◌, ℕ, zero, suc, ◌+◌, ◌≤◌, ◌<◌, ◌==◌, arith}
use Rattle.std.proofs.Common.{Bool, true, false, List, [], ◌∷◌, ◌++◌, append-nil, append_assoc, length, length-append, Option, Some, None, Result, Ok}
use Rattle.std.proofs.Common.{ℤ, pos, ◌+ℤ◌}
use Rattle.std.proofs.lemmas.Int.{ints}
use Rattle.std.specs.Prelude.{IsTrue}
use Rattle.std.specs.Char.{is_ascii_digit}
use Rattle.std.specs.List.{list_all}
use Rattle.std.proofs.lemmas.Bool.{and_parts, eqb-true}
use Rattle.calendar_values.specs.Clock.{nanos_per_second, nanos_per_minute, nanos_per_hour, nanos_per_day}
use Rattle.calendar_values.specs.Durations.{IsDuration}
use Rattle.duration_texts.specs.Grammar.{part_text, HasPart, time_text, AreDays, AreDaysAndTime}
use Rattle.duration_texts.specs.Numbers.{Number, IsNumber, number_text, fraction_text}
use Rattle.duration_texts.specs.Pieces.{front, past, blanks, is_blank}
use Rattle.duration_texts.specs.Reading.{number_at, sum_with, with_sign, part_at, part_before, sum_at_end, time_from, after_days, iso_from}
use Rattle.duration_texts.specs.declared.faults.Stop.{Stop}
use Rattle.duration_texts.proofs.FrontLemmas.{Stops, blanks-past, past-blanks, length-some}
use Rattle.duration_texts.proofs.TermLemmas.{bind_ok, chosen, ok_same, number_at-ok, number_at-again, Ends, sum_with-ok, sum_with-again}
use Rattle.duration_texts.proofs.TermLemmas.{digit-no_byte}
use Rattle.duration_texts.proofs.TermsLemmas.{stops-number}

-- ---- sums of one sign

pub with_sign-sum : (negative : Bool) (m n : ℕ) → with_sign negative m +ℤ with_sign negative n ≡ with_sign negative (m + n)
with_sign-sum true m n = omega (arith, ints)
with_sign-sum false m n = omega (arith, ints)

pub none-sum : (negative : Bool) → with_sign negative 0 ≡ pos 0
none-sum true = refl
none-sum false = refl

-- a lesser number of the same sign is a duration too
pub lesser : (negative : Bool) (m n : ℕ) → m ≤ n → IsDuration (with_sign negative n) → IsDuration (with_sign negative m)
lesser true m n low h = let least = h.0 in (omega (arith, ints, least, low), omega (arith, ints))
lesser false m n low h = let most = h.1 in (omega (arith, ints), omega (arith, ints, most, low))

-- ---- a part

-- what is read of a part
pub record ReadsPart (letter unit : ℕ) (negative : Bool) (sum : ℤ) (text : List ℕ) (read : ℤ × List ℕ) : Type 0 where
  pub part : Option Number
  pub n : ℕ
  pub spelled : text ≡ part_text letter part ++ read.1
  pub value : HasPart unit part n
  pub total : read.0 ≡ sum +ℤ with_sign negative n

no_part : (letter unit : ℕ) (negative : Bool) (sum : ℤ) (text : List ℕ) (read : ℤ × List ℕ) → ◌≡◌ {A = Result (ℤ × List ℕ) Stop} (Ok (sum, text)) (Ok read)
    → ReadsPart letter unit negative sum text read
no_part letter unit negative sum text read e =
    subst (ReadsPart letter unit negative sum text) (ok_same (sum, text) read e) (record {
      part = None;
      n = 0;
      spelled = refl;
      value = refl;
      total = sym (ap (λ (z : ℤ). sum +ℤ z) (none-sum negative) ∙ omega (arith, ints));
    })

part_before-ok : (letter unit : ℕ) (negative : Bool) (sum : ℤ) (text : List ℕ) (number : Number) (rest : List ℕ) (read : ℤ × List ℕ)
    → text ≡ number_text number ++ rest → IsNumber number → part_before letter unit negative sum text number rest ≡ Ok read
    → ReadsPart letter unit negative sum text read
part_before-ok letter unit negative sum text number [] read spelled digits e = no_part letter unit negative sum text read e
part_before-ok letter unit negative sum text number (byte ∷ bytes) read spelled digits e =
    elim (chosen (byte == letter) _ _ _ e) [
      | inl h ↦
          let more = bind_ok (sum_with negative sum unit number text) (λ more. Ok (more, bytes)) read h.1 in
          let value = sum_with-ok negative sum unit number text more.0 more.1 in
          subst (ReadsPart letter unit negative sum text) (ok_same (more.0, bytes) read more.2) (record {
            part = Some number;
            n = value.0;
            spelled =
                spelled
                ∙ ap (λ (n : ℕ). number_text number ++ (n ∷ bytes)) (eqb-true byte letter h.0)
                ∙ sym (append_assoc (number_text number) (letter ∷ []) bytes);
            value = (digits, value.1);
            total = value.2;
          })
      | inr h ↦ no_part letter unit negative sum text read h.1
    ]

pub part_at-ok : (letter unit : ℕ) (negative : Bool) (sum : ℤ) (text : List ℕ) (read : ℤ × List ℕ) → part_at letter unit negative sum text ≡ Ok read
    → ReadsPart letter unit negative sum text read
unfolding part_at
part_at-ok letter unit negative sum text read e =
    elim (chosen (length (front is_ascii_digit text) == 0) _ _ _ e) [
      | inl h ↦ no_part letter unit negative sum text read h.1
      | inr h ↦
          let number = bind_ok (number_at text) _ read h.1 in
          let digits = number_at-ok text number.0.0 number.0.1 number.1 in
          part_before-ok letter unit negative sum text number.0.0 number.0.1 read digits.0 digits.1 number.2
    ]

-- a letter ends a number
ends-letter : (letter : ℕ) (rest : List ℕ) → is_ascii_digit letter ≡ false → (letter == 46) ≡ false → Ends (letter ∷ rest)
ends-letter letter rest digit point = record { digit = digit; point = point }

-- the first byte is a digit
abbrev BeginsWithDigit : List ℕ → Type 0
BeginsWithDigit [] = ⊥
BeginsWithDigit (byte ∷ bytes) = is_ascii_digit byte ≡ true

some-text : (whole fraction rest : List ℕ) → 0 < length whole → IsTrue (list_all is_ascii_digit whole) → BeginsWithDigit ((whole ++ fraction) ++ rest)
some-text [] fraction rest some all = absurd (omega (arith, some))
some-text (byte ∷ bytes) fraction rest some all = (and_parts (is_ascii_digit byte) (list_all is_ascii_digit bytes) all).0

some_front : (text : List ℕ) → BeginsWithDigit text → (length (front is_ascii_digit text) == 0) ≡ false
some_front [] h = absurd h
some_front (byte ∷ bytes) h = rw h (length-some (byte ∷ front is_ascii_digit bytes) (omega arith))

some-digits : (number : Number) (rest : List ℕ) → IsNumber number → (length (front is_ascii_digit (number_text number ++ rest)) == 0) ≡ false
some-digits number rest h = some_front (number_text number ++ rest) (some-text number.whole (fraction_text number.fraction) rest h.some h.whole)

-- the text has no part of this letter in front
abbrev pub Skips : ℕ → List ℕ → Type 0
Skips letter text = (unit : ℕ) (negative : Bool) (sum : ℤ) → part_at letter unit negative sum text ≡ Ok (sum, text)

pub part_at-again : (letter unit : ℕ) (negative : Bool) (m n : ℕ) (part : Option Number) (rest : List ℕ) → is_ascii_digit letter ≡ false
    → (letter == 46) ≡ false → (letter == letter) ≡ true → Skips letter rest → HasPart unit part n → IsDuration (with_sign negative m)
    → IsDuration (with_sign negative (m + n))
    → part_at letter unit negative (with_sign negative m) (part_text letter part ++ rest) ≡ Ok (with_sign negative (m + n), rest)
unfolding part_at
part_at-again letter unit negative m n None rest digit point same skips value before after =
    skips unit negative (with_sign negative m) ∙ ap (λ (k : ℕ). Ok (with_sign negative k, rest)) (omega (arith, value))
part_at-again letter unit negative m n (Some number) rest digit point same skips value before after =
    let sum = with_sign-sum negative m n in
    let more : IsDuration (with_sign negative m +ℤ with_sign negative n) = subst (λ (z : ℤ). IsDuration z) (sym sum) after in
    rw (append_assoc (number_text number) (letter ∷ []) rest)
    (rw (some-digits number (letter ∷ rest) value.0)
    (rw (number_at-again number (letter ∷ rest) value.0 (ends-letter letter rest digit point))
    (rw same
    (rw (sum_with-again negative (with_sign negative m) unit number (number_text number ++ (letter ∷ rest)) n before value.1 more)
    (ap (λ (z : ℤ). Ok (z, rest)) sum)))))

-- what skips a letter: a text that does not begin with a digit, and a part of another letter
skips-stops : (letter : ℕ) (text : List ℕ) → Stops is_ascii_digit text → Skips letter text
unfolding part_at
skips-stops letter [] stops unit negative sum = refl
skips-stops letter (byte ∷ bytes) stops unit negative sum = rw stops refl

skips-other : (letter other : ℕ) (number : Number) (rest : List ℕ) → is_ascii_digit other ≡ false → (other == 46) ≡ false → (other == letter) ≡ false
    → IsNumber number → Skips letter (part_text other (Some number) ++ rest)
unfolding part_at
skips-other letter other number rest digit point apart h unit negative sum =
    rw (append_assoc (number_text number) (other ∷ []) rest)
    (rw (some-digits number (other ∷ rest) h)
    (rw (number_at-again number (other ∷ rest) h (ends-letter other rest digit point)) (rw apart refl)))

skips-part : (letter other unit n : ℕ) (part : Option Number) (rest : List ℕ) → is_ascii_digit other ≡ false → (other == 46) ≡ false
    → (other == letter) ≡ false → HasPart unit part n → Skips letter rest → Skips letter (part_text other part ++ rest)
skips-part letter other unit n None rest digit point apart h skips = skips
skips-part letter other unit n (Some number) rest digit point apart h skips = skips-other letter other number rest digit point apart h.0

skips-blanks : (letter n : ℕ) → Skips letter (blanks n)
skips-blanks letter zero = skips-stops letter [] tt
skips-blanks letter (suc n) = skips-stops letter (32 ∷ blanks n) refl

-- ---- the end

pub blanks-past_all : (n : ℕ) → past is_blank (blanks n) ≡ []
blanks-past_all zero = refl
blanks-past_all (suc n) = blanks-past_all n

-- nothing but blanks is left, and the text has begun
record IsEnded (rest begun : List ℕ) : Type 0 where
  after : ℕ
  blank : rest ≡ blanks after
  some : 0 < length (past is_blank begun)

sum_at_end-ok : (sum : ℤ) (left begun : List ℕ) (total : ℤ) → sum_at_end sum left begun ≡ Ok total → (left ≡ []) × (0 < length begun) × (sum ≡ total)
sum_at_end-ok sum [] [] total e = absurd cc
sum_at_end-ok sum [] (byte ∷ begun) total e = (refl, omega arith, ok_same sum total e)
sum_at_end-ok sum (byte ∷ left) begun total e = absurd cc

sum_at_end-is : (sum : ℤ) (rest begun : List ℕ) (total : ℤ) → sum_at_end sum (past is_blank rest) (past is_blank begun) ≡ Ok total
    → IsEnded rest begun × (sum ≡ total)
sum_at_end-is sum rest begun total e =
    let h = sum_at_end-ok sum (past is_blank rest) (past is_blank begun) total e in (
      record {
        after = length (front is_blank rest);
        blank = blanks-past rest ∙ ap (λ (xs : List ℕ). blanks (length (front is_blank rest)) ++ xs) h.0 ∙ append-nil (blanks (length (front is_blank rest)));
        some = h.1;
      },
      h.2,
    )

sum_at_end-again : (sum : ℤ) (begun : List ℕ) → 0 < length begun → sum_at_end sum [] begun ≡ Ok sum
sum_at_end-again sum [] some = absurd (omega (arith, some))
sum_at_end-again sum (byte ∷ begun) some = refl

some-before : (parts : List ℕ) (n : ℕ) → 0 < length (past is_blank (parts ++ blanks n)) → 0 < length parts
some-before [] n some = let none = ap (length {A = ℕ}) (blanks-past_all n) in absurd (omega (arith, some, none))
some-before (byte ∷ parts) n some = omega arith

-- ---- the time of day

-- what is read of a time of day
record ReadsTime (negative : Bool) (sum : ℤ) (text : List ℕ) (total : ℤ) : Type 0 where
  hours : Option Number
  minutes : Option Number
  seconds : Option Number
  after : ℕ
  of_hours : ℕ
  of_minutes : ℕ
  of_seconds : ℕ
  spelled : text ≡ time_text hours minutes seconds ++ blanks after
  some : 0 < length (time_text hours minutes seconds)
  has_hours : HasPart nanos_per_hour hours of_hours
  has_minutes : HasPart nanos_per_minute minutes of_minutes
  has_seconds : HasPart nanos_per_second seconds of_seconds
  value : total ≡ sum +ℤ with_sign negative (of_hours + of_minutes + of_seconds)

regroup3 : (a b c d : List ℕ) → (a ++ (b ++ c)) ++ d ≡ a ++ (b ++ (c ++ d))
regroup3 a b c d = append_assoc a (b ++ c) d ∙ ap (λ (xs : List ℕ). a ++ xs) (append_assoc b c d)

three_sums : (negative : Bool) (sum more most total : ℤ) (h m s : ℕ) → more ≡ sum +ℤ with_sign negative h → most ≡ more +ℤ with_sign negative m
    → total ≡ most +ℤ with_sign negative s → total ≡ sum +ℤ with_sign negative (h + m + s)
three_sums true sum more most total h m s e f g = omega (arith, ints, e, f, g)
three_sums false sum more most total h m s e f g = omega (arith, ints, e, f, g)

time_from-ok : (negative : Bool) (sum : ℤ) (text : List ℕ) (total : ℤ) → time_from negative sum text ≡ Ok total → ReadsTime negative sum text total
unfolding time_from
time_from-ok negative sum text total e =
    let hours = bind_ok (part_at 72 nanos_per_hour negative sum text) _ total e in
    let minutes = bind_ok (part_at 77 nanos_per_minute negative hours.0.0 hours.0.1) _ total hours.2 in
    let seconds = bind_ok (part_at 83 nanos_per_second negative minutes.0.0 minutes.0.1) _ total minutes.2 in
    let h = part_at-ok 72 nanos_per_hour negative sum text hours.0 hours.1 in
    let m = part_at-ok 77 nanos_per_minute negative hours.0.0 hours.0.1 minutes.0 minutes.1 in
    let s = part_at-ok 83 nanos_per_second negative minutes.0.0 minutes.0.1 seconds.0 seconds.1 in
    let end = sum_at_end-is seconds.0.0 seconds.0.1 text total seconds.2 in
    let spelled : text ≡ time_text h.part m.part s.part ++ blanks end.0.after =
    h.spelled
    ∙ ap (λ (xs : List ℕ). part_text 72 h.part ++ xs) (m.spelled
    ∙ ap (λ (xs : List ℕ). part_text 77 m.part ++ xs) (s.spelled ∙ ap (λ (xs : List ℕ). part_text 83 s.part ++ xs) end.0.blank))
    ∙ sym (regroup3 (part_text 72 h.part) (part_text 77 m.part) (part_text 83 s.part) (blanks end.0.after)) in
    record {
      hours = h.part;
      minutes = m.part;
      seconds = s.part;
      after = end.0.after;
      of_hours = h.n;
      of_minutes = m.n;
      of_seconds = s.n;
      spelled = spelled;
      some =
          some-before (time_text h.part m.part s.part) end.0.after
          (subst (λ (xs : List ℕ). 0 < length (past is_blank xs)) spelled end.0.some);
      has_hours = h.value;
      has_minutes = m.value;
      has_seconds = s.value;
      value = three_sums negative sum hours.0.0 minutes.0.0 total h.n m.n s.n h.total m.total (sym end.1 ∙ s.total);
    }

stops-time : (hours minutes seconds : Option Number) (h m s : ℕ) (rest : List ℕ) → HasPart nanos_per_hour hours h → HasPart nanos_per_minute minutes m
    → HasPart nanos_per_second seconds s → 0 < length (time_text hours minutes seconds) → Stops is_blank (time_text hours minutes seconds ++ rest)
stops-time hours minutes seconds h m s rest of_hours of_minutes of_seconds some =
    subst (Stops is_blank) (sym (regroup3 (part_text 72 hours) (part_text 77 minutes) (part_text 83 seconds) rest))
    (first hours minutes seconds of_hours of_minutes of_seconds some) where
      stops-part : (letter : ℕ) (number : Number) (rest : List ℕ) → IsNumber number → Stops is_blank (part_text letter (Some number) ++ rest)
      stops-part letter number rest digits =
          subst (Stops is_blank) (sym (append_assoc (number_text number) (letter ∷ []) rest))
          (stops-number is_blank number (letter ∷ rest) (λ byte. digit-no_byte byte 32 refl) digits)

      first : (hours minutes seconds : Option Number) → HasPart nanos_per_hour hours h → HasPart nanos_per_minute minutes m
          → HasPart nanos_per_second seconds s → 0 < length (time_text hours minutes seconds)
          → Stops is_blank (part_text 72 hours ++ (part_text 77 minutes ++ (part_text 83 seconds ++ rest)))
      first (Some number) minutes seconds of_hours of_minutes of_seconds some = stops-part 72 number _ of_hours.0
      first None (Some number) seconds of_hours of_minutes of_seconds some = stops-part 77 number _ of_minutes.0
      first None None (Some number) of_hours of_minutes of_seconds some = stops-part 83 number _ of_seconds.0
      first None None None of_hours of_minutes of_seconds some = absurd (omega (arith, some))

time_from-again : (negative : Bool) (d : ℕ) (hours minutes seconds : Option Number) (h m s after : ℕ) → HasPart nanos_per_hour hours h
    → HasPart nanos_per_minute minutes m → HasPart nanos_per_second seconds s → 0 < length (time_text hours minutes seconds)
    → IsDuration (with_sign negative (d + h + m + s))
    → time_from negative (with_sign negative d) (time_text hours minutes seconds ++ blanks after) ≡ Ok (with_sign negative (d + h + m + s))
unfolding time_from
time_from-again negative d hours minutes seconds h m s after of_hours of_minutes of_seconds some in_range =
    let text = time_text hours minutes seconds ++ blanks after in
    let grouped = regroup3 (part_text 72 hours) (part_text 77 minutes) (part_text 83 seconds) (blanks after) in
    let trimmed = past-blanks 0 text (stops-time hours minutes seconds h m s (blanks after) of_hours of_minutes of_seconds some) in
    let begun : 0 < length text = let all = length-append (time_text hours minutes seconds) (blanks after) in omega (arith, all, some) in
    let range : (k : ℕ) → k ≤ d + h + m + s → IsDuration (with_sign negative k) = λ k low. lesser negative k (d + h + m + s) low in_range in
    let to_hours = skips-part 72 77 nanos_per_minute m minutes (part_text 83 seconds ++ blanks after) refl refl refl of_minutes
    (skips-part 72 83 nanos_per_second s seconds (blanks after) refl refl refl of_seconds (skips-blanks 72 after)) in
    let to_minutes = skips-part 77 83 nanos_per_second s seconds (blanks after) refl refl refl of_seconds (skips-blanks 77 after) in
    let first : part_at 72 nanos_per_hour negative (with_sign negative d) text
    ≡ Ok (with_sign negative (d + h), part_text 77 minutes ++ (part_text 83 seconds ++ blanks after)) =
    ap (part_at 72 nanos_per_hour negative (with_sign negative d)) grouped
    ∙ part_at-again 72 nanos_per_hour negative d h hours _ refl refl refl to_hours of_hours (range d (omega arith)) (range (d + h) (omega arith)) in
    let second = part_at-again 77 nanos_per_minute negative (d + h) m minutes (part_text 83 seconds ++ blanks after) refl refl refl to_minutes of_minutes
    (range (d + h) (omega arith)) (range (d + h + m) (omega arith)) in
    let third = part_at-again 83 nanos_per_second negative (d + h + m) s seconds (blanks after) refl refl refl (skips-blanks 83 after) of_seconds
    (range (d + h + m) (omega arith)) in_range in
    rw first (rw second (rw third (rw (blanks-past_all after) (rw trimmed (sum_at_end-again (with_sign negative (d + h + m + s)) text begun)))))

-- ---- all of it

-- what is read after the P
pub record ReadsIso (negative : Bool) (text : List ℕ) (total : ℤ) : Type 0 where
  pub n : ℕ
  pub value : AreDays text n ⊎ AreDaysAndTime text n
  pub signed : total ≡ with_sign negative n

after_days-ok : (negative : Bool) (sum : ℤ) (rest begun : List ℕ) (total : ℤ) → after_days negative sum rest (past is_blank begun) ≡ Ok total
    → (IsEnded rest begun × (sum ≡ total)) ⊎ ((more : List ℕ) × (rest ≡ 84 ∷ more) × ReadsTime negative sum more total)
after_days-ok negative sum [] begun total e = inl (sum_at_end-is sum [] begun total e)
after_days-ok negative sum (byte ∷ bytes) begun total e =
    elim (chosen (byte == 84) _ _ _ e) [
      | inl h ↦ inr (bytes, ap (λ (n : ℕ). n ∷ bytes) (eqb-true byte 84 h.0), time_from-ok negative sum bytes total h.1)
      | inr h ↦ inl (sum_at_end-is sum (byte ∷ bytes) begun total h.1)
    ]

days_alone : (negative : Bool) (text : List ℕ) (total : ℤ) (read : ℤ × List ℕ) → ReadsPart 68 nanos_per_day negative (pos 0) text read
    → IsEnded read.1 text → read.0 ≡ total → ReadsIso negative text total
days_alone negative text total read r end same = of_part r.part r.spelled r.value where
  of_part : (part : Option Number) → text ≡ part_text 68 part ++ read.1 → HasPart nanos_per_day part r.n → ReadsIso negative text total
  of_part None spelled value =
      let only : text ≡ blanks end.after = spelled ∙ end.blank in
      let none = ap (λ (xs : List ℕ). length (past is_blank xs)) only ∙ ap (length {A = ℕ}) (blanks-past_all end.after) in
      let some = end.some in
      absurd (omega (arith, some, none))
  of_part (Some days) spelled value =
      record {
        n = r.n;
        value = inl (record {
          days = days;
          after = end.after;
          spelled = spelled ∙ ap (λ (xs : List ℕ). part_text 68 (Some days) ++ xs) end.blank;
          value = value;
        });
        signed = sym same ∙ r.total ∙ omega (arith, ints);
      }

all_sums : (negative : Bool) (sum total : ℤ) (d h m s : ℕ) → sum ≡ pos 0 +ℤ with_sign negative d → total ≡ sum +ℤ with_sign negative (h + m + s)
    → total ≡ with_sign negative (d + h + m + s)
all_sums true sum total d h m s e f = omega (arith, ints, e, f)
all_sums false sum total d h m s e f = omega (arith, ints, e, f)

days_and_time : (negative : Bool) (text : List ℕ) (total : ℤ) (read : ℤ × List ℕ) → ReadsPart 68 nanos_per_day negative (pos 0) text read
    → (more : List ℕ) → read.1 ≡ 84 ∷ more → ReadsTime negative read.0 more total → ReadsIso negative text total
days_and_time negative text total read r more begins t = record {
  n = r.n + t.of_hours + t.of_minutes + t.of_seconds;
  value = inr (record {
    days = r.part;
    hours = t.hours;
    minutes = t.minutes;
    seconds = t.seconds;
    after = t.after;
    of_days = r.n;
    of_hours = t.of_hours;
    of_minutes = t.of_minutes;
    of_seconds = t.of_seconds;
    spelled =
        r.spelled
        ∙ ap (λ (xs : List ℕ). part_text 68 r.part ++ xs) (begins ∙ ap (λ (xs : List ℕ). 84 ∷ xs) t.spelled);
    some = t.some;
    has_days = r.value;
    has_hours = t.has_hours;
    has_minutes = t.has_minutes;
    has_seconds = t.has_seconds;
    value = refl;
  });
  signed = all_sums negative read.0 total r.n t.of_hours t.of_minutes t.of_seconds r.total t.value;
}

pub iso_from-ok : (negative : Bool) (text : List ℕ) (total : ℤ) → iso_from negative text ≡ Ok total → ReadsIso negative text total
unfolding iso_from
iso_from-ok negative text total e =
    let days = bind_ok (part_at 68 nanos_per_day negative (pos 0) text) _ total e in
    let r = part_at-ok 68 nanos_per_day negative (pos 0) text days.0 days.1 in
    elim (after_days-ok negative days.0.0 days.0.1 text total days.2) [
      | inl h ↦ days_alone negative text total days.0 r h.0 h.1
      | inr h ↦ days_and_time negative text total days.0 r h.0 h.1 h.2
    ]

after_days-blanks : (negative : Bool) (sum : ℤ) (n : ℕ) (begun : List ℕ) → 0 < length begun → after_days negative sum (blanks n) begun ≡ Ok sum
after_days-blanks negative sum zero begun some = sum_at_end-again sum begun some
after_days-blanks negative sum (suc n) begun some = rw (blanks-past_all n) (sum_at_end-again sum begun some)

-- the days in front
first_part : (negative : Bool) (n : ℕ) (part : Option Number) (rest : List ℕ) → Skips 68 rest → HasPart nanos_per_day part n → IsDuration (with_sign negative n)
    → part_at 68 nanos_per_day negative (pos 0) (part_text 68 part ++ rest) ≡ Ok (with_sign negative n, rest)
first_part negative n part rest skips value in_range =
    let same : 0 + n ≡ n = omega arith in
    ap (λ (z : ℤ). part_at 68 nanos_per_day negative z (part_text 68 part ++ rest)) (sym (none-sum negative))
    ∙ part_at-again 68 nanos_per_day negative 0 n part rest refl refl refl skips value (lesser negative 0 n (omega arith) in_range)
    (subst (λ (k : ℕ). IsDuration (with_sign negative k)) (sym same) in_range)
    ∙ ap (λ (k : ℕ). Ok (with_sign negative k, rest)) same

pub iso_from-days : (negative : Bool) (text : List ℕ) (n : ℕ) → AreDays text n → IsDuration (with_sign negative n)
    → iso_from negative text ≡ Ok (with_sign negative n)
unfolding iso_from
iso_from-days negative text n h in_range =
    let stops : Stops is_blank (part_text 68 (Some h.days) ++ blanks h.after) =
    subst (Stops is_blank) (sym (append_assoc (number_text h.days) (68 ∷ []) (blanks h.after)))
    (stops-number is_blank h.days (68 ∷ blanks h.after) (λ byte. digit-no_byte byte 32 refl) h.value.0) in
    let trimmed = past-blanks 0 (part_text 68 (Some h.days) ++ blanks h.after) stops in
    let some : 0 < length (part_text 68 (Some h.days) ++ blanks h.after) =
    let all = length-append (part_text 68 (Some h.days)) (blanks h.after) in
    let letter = length-append (number_text h.days) (68 ∷ []) in
    omega (arith, all, letter) in
    let first = first_part negative n (Some h.days) (blanks h.after) (skips-blanks 68 h.after) h.value in_range in
    rw h.spelled
    (rw first
    (rw trimmed (after_days-blanks negative (with_sign negative n) h.after (part_text 68 (Some h.days) ++ blanks h.after) some)))

pub iso_from-time : (negative : Bool) (text : List ℕ) (n : ℕ) → AreDaysAndTime text n → IsDuration (with_sign negative n)
    → iso_from negative text ≡ Ok (with_sign negative n)
unfolding iso_from
iso_from-time negative text n h in_range =
    let rest = 84 ∷ (time_text h.hours h.minutes h.seconds ++ blanks h.after) in
    let all : IsDuration (with_sign negative (h.of_days + h.of_hours + h.of_minutes + h.of_seconds)) =
    subst (λ (k : ℕ). IsDuration (with_sign negative k)) h.value in_range in
    let first = first_part negative h.of_days h.days rest (skips-stops 68 rest refl) h.has_days (lesser negative h.of_days _ (omega arith) all) in
    rw (h.spelled, h.value)
    (rw first
    (time_from-again negative h.of_days h.hours h.minutes h.seconds h.of_hours h.of_minutes h.of_seconds h.after h.has_hours h.has_minutes h.has_seconds
    h.some all))
