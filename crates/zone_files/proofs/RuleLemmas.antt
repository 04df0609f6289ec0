-- What is read of a rule's text is derived by the grammar, and the other way round: names, days, moments and whole rules.
use Rattle.std.proofs.Common.{◌≡◌, inl, inr, refl, sym, ap, subst, ◌∙◌, ℕ, ◌≤◌, ◌<◌, ◌==◌, arith}
use Rattle.std.proofs.Common.{true, false, List, [], ◌∷◌, ◌++◌, append-nil, append_assoc, length, length-append, Option, Some, None, Result, Ok, Err}
use Rattle.std.proofs.Common.{ℤ, pos}
use Rattle.std.specs.Prelude.{IsTrue, IfOk, nat_lt}
use Rattle.std.specs.Char.{is_ascii_digit, is_ascii_alphabetic}
use Rattle.std.specs.List.{list_all}
use Rattle.std.specs.Result.{result_map_both}
use Rattle.std.proofs.lemmas.Bool.{cases_Bool, eqb-true, and_parts}
use Rattle.std.proofs.lemmas.Bool.Decides.{nat_tests}
use Rattle.zone_files.specs.Grammar.{DerivesNumber}
use Rattle.zone_files.specs.Grammar.{DerivesName, DerivesDay, DerivesTime, DerivesMoment}
use Rattle.zone_files.specs.Grammar.{DerivesOffset, DerivesDaylightOffset, DerivesDaylight, DerivesRest, Derives}
use Rattle.zone_files.specs.Pieces.{front, past, is_quoted}
use Rattle.zone_files.specs.Reading.{number_at, after_byte, signed_at}
use Rattle.zone_files.specs.Reading.{letters_at, quoted_at, name_at, weekday_at, common_at, counted_at, day_at, time_at, moment_at}
use Rattle.zone_files.specs.Reading.{offset_at, daylight_offset_at}
use Rattle.zone_files.specs.Reading.{daylight_at, rule_with_daylight, rule_after, rule_in, refusal_of, rule_of}
use Rattle.zone_files.specs.Rules.{DayParts, MomentParts, DaylightParts, RuleParts}
use Rattle.zone_files.specs.Rules.DayParts.{OfWeek, OfCommon, OfCounted}
use Rattle.zone_files.specs.declared.faults.Stop.{Stop}
use Rattle.zone_files.specs.declared.faults.RuleRefusal.{RuleRefusal}
use Rattle.zone_files.specs.declared.numbers.Field.TheVariants.{Month, Week, Weekday, Common, Counted, OffsetHours, TimeHours}
use Rattle.zone_files.proofs.FrontLemmas.{Stops, front-past, front-passes, front-append, past-append, stops-other, no_length}
use Rattle.zone_files.proofs.TextLemmas.{bind_ok, chosen, ok_same, no_ok, Taken, two, number_at-ok, number_at-again, number-begins, after_byte-ok}
use Rattle.zone_files.proofs.TextLemmas.{Ends, signed_at-ok, signed_at-again, signed-some, signed-begins, signed-no_letter}

-- ---- names

lt-false : (a b : ℕ) → nat_lt a b ≡ false → b ≤ a
lt-false a b e = grind (arith, nat_tests)

le-lt_false : (a b : ℕ) → b ≤ a → nat_lt a b ≡ false
le-lt_false a b le = grind (arith, nat_tests)

letters_at-ok : (text : List ℕ) (y : List ℕ × List ℕ) → letters_at text ≡ Ok y → Taken DerivesName text y.0 y.1
unfolding letters_at
letters_at-ok text y e =
    elim (chosen (nat_lt (length (front is_ascii_alphabetic text)) 3) _ _ _ e) [
      | inl h ↦ absurd (no_ok _ _ h.1)
      | inr h ↦
          subst (λ (z : List ℕ × List ℕ). Taken DerivesName text z.0 z.1) (ok_same _ _ h.1) (record {
            piece = front is_ascii_alphabetic text;
            parts = front-past is_ascii_alphabetic text;
            is = inl (record { spelled = refl; letters = front-passes is_ascii_alphabetic text; long = lt-false _ _ h.0 });
          })
    ]

quoted_at-ok : (text : List ℕ) (y : List ℕ × List ℕ) → quoted_at text ≡ Ok y → Taken DerivesName (60 ∷ text) y.0 y.1
unfolding quoted_at
quoted_at-ok text y e =
    elim (chosen (nat_lt (length (front is_quoted text)) 3) _ _ _ e) [
      | inl h ↦ absurd (no_ok _ _ h.1)
      | inr h ↦
          let a = bind_ok (after_byte 62 (past is_quoted text)) _ y h.1 in
          let closed = after_byte-ok 62 (past is_quoted text) a.0 a.1 in
          subst (λ (z : List ℕ × List ℕ). Taken DerivesName (60 ∷ text) z.0 z.1) (ok_same _ _ a.2) (record {
            piece = 60 ∷ (front is_quoted text ++ 62 ∷ []);
            parts =
                ap (λ (xs : List ℕ). 60 ∷ xs) (front-past is_quoted text ∙ ap (λ (xs : List ℕ). front is_quoted text ++ xs) closed
                ∙ sym (append_assoc (front is_quoted text) (62 ∷ []) a.0));
            is = inr (record { spelled = refl; letters = front-passes is_quoted text; long = lt-false _ _ h.0 });
          })
    ]

pub name_at-ok : (text : List ℕ) (y : List ℕ × List ℕ) → name_at text ≡ Ok y → Taken DerivesName text y.0 y.1
name_at-ok [] y e = letters_at-ok [] y e
name_at-ok (byte ∷ bytes) y e =
    elim (chosen (byte == 60) _ _ _ e) [
      | inl h ↦ rw (eqb-true byte 60 h.0) (quoted_at-ok bytes y h.1)
      | inr h ↦ letters_at-ok (byte ∷ bytes) y h.1
    ]

letters_at-again : (name rest : List ℕ) → IsTrue (list_all is_ascii_alphabetic name) → 3 ≤ length name → Stops is_ascii_alphabetic rest
    → letters_at (name ++ rest) ≡ Ok (name, rest)
unfolding letters_at
letters_at-again name rest letters long stops =
    rw (front-append is_ascii_alphabetic name rest letters stops) (rw (past-append is_ascii_alphabetic name rest letters stops)
    (rw (le-lt_false (length name) 3 long) refl))

quoted_at-again : (name rest : List ℕ) → IsTrue (list_all is_quoted name) → 3 ≤ length name → quoted_at (name ++ (62 ∷ rest)) ≡ Ok (name, rest)
unfolding quoted_at
quoted_at-again name rest letters long =
    rw (front-append is_quoted name (62 ∷ rest) letters refl) (rw (past-append is_quoted name (62 ∷ rest) letters refl)
    (rw (le-lt_false (length name) 3 long) refl))

name_at-letters : (text : List ℕ) → Stops (λ byte. byte == 60) text → name_at text ≡ letters_at text
name_at-letters [] stops = refl
name_at-letters (byte ∷ bytes) stops = rw stops refl

letter-other : (byte : ℕ) → is_ascii_alphabetic byte ≡ true → (byte == 60) ≡ false
letter-other byte letter =
    elim (cases_Bool (byte == 60)) [
      | inl t ↦ let bad = rw (eqb-true byte 60 t) at letter in absurd cc
      | inr t ↦ t
    ]

pub name_at-again : (piece rest name : List ℕ) → DerivesName piece name → Stops is_ascii_alphabetic rest → name_at (piece ++ rest) ≡ Ok (name, rest)
name_at-again piece rest name (inl h) stops =
    let start : Stops (λ byte. byte == 60) (name ++ rest) =
    stops-other is_ascii_alphabetic (λ byte. byte == 60) name rest letter-other (omega (arith, h.long)) h.letters in
    ap (λ (xs : List ℕ). name_at (xs ++ rest)) h.spelled
    ∙ name_at-letters (name ++ rest) start
    ∙ letters_at-again name rest h.letters h.long stops
name_at-again piece rest name (inr h) stops =
    ap (λ (xs : List ℕ). name_at (xs ++ rest)) h.spelled
    ∙ ap quoted_at (append_assoc name (62 ∷ []) rest)
    ∙ quoted_at-again name rest h.letters h.long

-- ---- days

weekday_at-ok : (text : List ℕ) (y : DayParts × List ℕ) → weekday_at text ≡ Ok y → Taken DerivesDay (77 ∷ text) y.0 y.1
unfolding weekday_at
weekday_at-ok text y e =
    let a = bind_ok (number_at Month text) _ y e in
    let month = number_at-ok Month text a.0 a.1 in
    let b = bind_ok (after_byte 46 a.0.1) _ y a.2 in
    let point = after_byte-ok 46 a.0.1 b.0 b.1 in
    let c = bind_ok (number_at Week b.0) _ y b.2 in
    let week = number_at-ok Week b.0 c.0 c.1 in
    let d = bind_ok (after_byte 46 c.0.1) _ y c.2 in
    let next = after_byte-ok 46 c.0.1 d.0 d.1 in
    let f = bind_ok (number_at Weekday d.0) _ y d.2 in
    let weekday = number_at-ok Weekday d.0 f.0 f.1 in
    let third : c.0.1 ≡ (46 ∷ weekday.piece) ++ f.0.1 = next ∙ ap (λ (xs : List ℕ). 46 ∷ xs) weekday.parts in
    let second : b.0 ≡ (week.piece ++ (46 ∷ weekday.piece)) ++ f.0.1 = two b.0 week.piece c.0.1 (46 ∷ weekday.piece) f.0.1 week.parts third in
    let first : a.0.1 ≡ (46 ∷ (week.piece ++ (46 ∷ weekday.piece))) ++ f.0.1 = point ∙ ap (λ (xs : List ℕ). 46 ∷ xs) second in
    subst (λ (z : DayParts × List ℕ). Taken DerivesDay (77 ∷ text) z.0 z.1) (ok_same _ _ f.2) (record {
      piece = 77 ∷ (month.piece ++ (46 ∷ (week.piece ++ (46 ∷ weekday.piece))));
      parts =
          ap (λ (xs : List ℕ). 77 ∷ xs) (two text month.piece a.0.1 (46 ∷ (week.piece ++ (46 ∷ weekday.piece))) f.0.1 month.parts first);
      is = record {
        first = month.piece;
        second = week.piece;
        third = weekday.piece;
        spelled = refl;
        has_month = month.is;
        has_week = week.is;
        has_weekday = weekday.is;
      };
    })

common_at-ok : (text : List ℕ) (y : DayParts × List ℕ) → common_at text ≡ Ok y → Taken DerivesDay (74 ∷ text) y.0 y.1
unfolding common_at
common_at-ok text y e =
    let a = bind_ok (number_at Common text) _ y e in
    let n = number_at-ok Common text a.0 a.1 in
    subst (λ (z : DayParts × List ℕ). Taken DerivesDay (74 ∷ text) z.0 z.1) (ok_same _ _ a.2) (record {
      piece = 74 ∷ n.piece;
      parts = ap (λ (xs : List ℕ). 74 ∷ xs) n.parts;
      is = record { digits = n.piece; spelled = refl; has_day = n.is };
    })

counted_at-ok : (text : List ℕ) (y : DayParts × List ℕ) → counted_at text ≡ Ok y → Taken DerivesDay text y.0 y.1
unfolding counted_at
counted_at-ok text y e =
    let a = bind_ok (number_at Counted text) _ y e in
    let n = number_at-ok Counted text a.0 a.1 in
    subst (λ (z : DayParts × List ℕ). Taken DerivesDay text z.0 z.1) (ok_same _ _ a.2)
    (record { piece = n.piece; parts = n.parts; is = n.is })

pub day_at-ok : (text : List ℕ) (y : DayParts × List ℕ) → day_at text ≡ Ok y → Taken DerivesDay text y.0 y.1
day_at-ok [] y e = counted_at-ok [] y e
day_at-ok (byte ∷ bytes) y e =
    elim (chosen (byte == 77) _ _ _ e) [
      | inl h ↦ rw (eqb-true byte 77 h.0) (weekday_at-ok bytes y h.1)
      | inr h ↦
          elim (chosen (byte == 74) _ _ _ h.1) [
            | inl g ↦ rw (eqb-true byte 74 g.0) (common_at-ok bytes y g.1)
            | inr g ↦ counted_at-ok (byte ∷ bytes) y g.1
          ]
    ]

weekday_at-again : (first second third rest : List ℕ) (month week weekday : ℕ) → DerivesNumber Month first month → DerivesNumber Week second week
    → DerivesNumber Weekday third weekday → Stops is_ascii_digit rest
    → weekday_at (first ++ (46 ∷ (second ++ (46 ∷ (third ++ rest))))) ≡ Ok (OfWeek month week weekday, rest)
unfolding weekday_at
weekday_at-again first second third rest month week weekday a b c stops =
    rw (number_at-again Month first (46 ∷ (second ++ (46 ∷ (third ++ rest)))) month a refl)
    (rw (number_at-again Week second (46 ∷ (third ++ rest)) week b refl)
    (rw (number_at-again Weekday third rest weekday c stops) refl))

common_at-again : (digits rest : List ℕ) (n : ℕ) → DerivesNumber Common digits n → Stops is_ascii_digit rest
    → common_at (digits ++ rest) ≡ Ok (OfCommon n, rest)
unfolding common_at
common_at-again digits rest n h stops = rw (number_at-again Common digits rest n h stops) refl

counted_at-again : (digits rest : List ℕ) (n : ℕ) → DerivesNumber Counted digits n → Stops is_ascii_digit rest
    → counted_at (digits ++ rest) ≡ Ok (OfCounted n, rest)
unfolding counted_at
counted_at-again digits rest n h stops = rw (number_at-again Counted digits rest n h stops) refl

day_at-counted : (text : List ℕ) → Stops (λ byte. byte == 77) text → Stops (λ byte. byte == 74) text → day_at text ≡ counted_at text
day_at-counted [] m j = refl
day_at-counted (byte ∷ bytes) m j = rw m (rw j refl)

spell_weekday : (first second third rest : List ℕ)
    → (first ++ (46 ∷ (second ++ (46 ∷ third)))) ++ rest ≡ first ++ (46 ∷ (second ++ (46 ∷ (third ++ rest))))
spell_weekday first second third rest =
    append_assoc first (46 ∷ (second ++ (46 ∷ third))) rest
    ∙ ap (λ (xs : List ℕ). first ++ (46 ∷ xs)) (append_assoc second (46 ∷ third) rest)

pub day_at-again : (piece rest : List ℕ) (day : DayParts) → DerivesDay piece day → Stops is_ascii_digit rest → day_at (piece ++ rest) ≡ Ok (day, rest)
day_at-again piece rest (OfWeek month week weekday) h stops =
    ap (λ (xs : List ℕ). day_at (xs ++ rest)) h.spelled
    ∙ ap weekday_at (spell_weekday h.first h.second h.third rest)
    ∙ weekday_at-again h.first h.second h.third rest month week weekday h.has_month h.has_week h.has_weekday stops
day_at-again piece rest (OfCommon n) h stops =
    ap (λ (xs : List ℕ). day_at (xs ++ rest)) h.spelled ∙ common_at-again h.digits rest n h.has_day stops
day_at-again piece rest (OfCounted n) h stops =
    day_at-counted (piece ++ rest) (number-begins Counted piece rest n 77 h refl) (number-begins Counted piece rest n 74 h refl)
    ∙ counted_at-again piece rest n h stops

-- ---- moments

time_at-ok : (text : List ℕ) (y : ℤ × List ℕ) → time_at text ≡ Ok y → Taken DerivesTime text y.0 y.1
time_at-ok [] y e =
    subst (λ (z : ℤ × List ℕ). Taken DerivesTime [] z.0 z.1) (ok_same _ _ e) (record { piece = []; parts = refl; is = refl })
time_at-ok (byte ∷ bytes) y e =
    elim (chosen (byte == 47) _ _ _ e) [
      | inl h ↦
          let t = signed_at-ok TimeHours bytes y h.1 in
          record { piece = byte ∷ t.piece; parts = ap (λ (xs : List ℕ). byte ∷ xs) t.parts; is = (eqb-true byte 47 h.0, t.is) }
      | inr h ↦
          subst (λ (z : ℤ × List ℕ). Taken DerivesTime (byte ∷ bytes) z.0 z.1) (ok_same _ _ h.1) (record { piece = []; parts = refl; is = refl })
    ]

time_at-none : (rest : List ℕ) → Stops (λ byte. byte == 47) rest → time_at rest ≡ Ok (pos 7_200, rest)
time_at-none [] stops = refl
time_at-none (byte ∷ bytes) stops = rw stops refl

time_at-again : (piece rest : List ℕ) (seconds : ℤ) → DerivesTime piece seconds → Ends rest → time_at (piece ++ rest) ≡ Ok (seconds, rest)
time_at-again [] rest seconds h ends = rw h (time_at-none rest ends.slash)
time_at-again (byte ∷ bytes) rest seconds h ends = rw h.0 (signed_at-again TimeHours bytes rest seconds h.1 ends)

time-no_digit : (piece rest : List ℕ) (seconds : ℤ) → DerivesTime piece seconds → Ends rest → Stops is_ascii_digit (piece ++ rest)
time-no_digit [] rest seconds h ends = ends.digit
time-no_digit (byte ∷ bytes) rest seconds h ends = rw h.0 refl

pub moment_at-ok : (text : List ℕ) (y : MomentParts × List ℕ) → moment_at text ≡ Ok y → Taken DerivesMoment text y.0 y.1
unfolding moment_at
moment_at-ok text y e =
    let a = bind_ok (after_byte 44 text) _ y e in
    let begun = after_byte-ok 44 text a.0 a.1 in
    let b = bind_ok (day_at a.0) _ y a.2 in
    let day = day_at-ok a.0 b.0 b.1 in
    let c = bind_ok (time_at b.0.1) _ y b.2 in
    let time = time_at-ok b.0.1 c.0 c.1 in
    subst (λ (z : MomentParts × List ℕ). Taken DerivesMoment text z.0 z.1) (ok_same _ _ c.2) (record {
      piece = 44 ∷ (day.piece ++ time.piece);
      parts = begun ∙ ap (λ (xs : List ℕ). 44 ∷ xs) (two a.0 day.piece b.0.1 time.piece c.0.1 day.parts time.parts);
      is = record { first = day.piece; second = time.piece; spelled = refl; has_day = day.is; has_time = time.is };
    })

pub moment_at-again : (piece rest : List ℕ) (moment : MomentParts) → DerivesMoment piece moment → Ends rest → moment_at (piece ++ rest) ≡ Ok (moment, rest)
unfolding moment_at
moment_at-again piece rest moment h ends =
    let whole : piece ++ rest ≡ 44 ∷ (h.first ++ (h.second ++ rest)) =
    ap (λ (xs : List ℕ). xs ++ rest) h.spelled ∙ ap (λ (xs : List ℕ). 44 ∷ xs) (append_assoc h.first h.second rest) in
    ap moment_at whole
    ∙ rw (day_at-again h.first (h.second ++ rest) moment.day h.has_day (time-no_digit h.second rest moment.time h.has_time ends))
    (rw (time_at-again h.second rest moment.time h.has_time ends) refl)

-- a moment ends a clock, and begins with no letter
moment-ends : (piece rest : List ℕ) (moment : MomentParts) → DerivesMoment piece moment → Ends (piece ++ rest)
moment-ends piece rest moment h = rw h.spelled (record { digit = refl; colon = refl; slash = refl })

moment-no_letter : (piece rest : List ℕ) (moment : MomentParts) → DerivesMoment piece moment → Stops is_ascii_alphabetic (piece ++ rest)
moment-no_letter piece rest moment h = rw h.spelled refl

-- ---- rules

pub offset_at-ok : (text : List ℕ) (y : ℤ × List ℕ) → offset_at text ≡ Ok y → Taken DerivesOffset text y.0 y.1
unfolding offset_at
offset_at-ok text y e =
    let a = bind_ok (signed_at OffsetHours text) _ y e in
    let west = signed_at-ok OffsetHours text a.0 a.1 in
    subst (λ (z : ℤ × List ℕ). Taken DerivesOffset text z.0 z.1) (ok_same _ _ a.2)
    (record { piece = west.piece; parts = west.parts; is = record { west = a.0.0; has_west = west.is; value = refl } })

pub offset_at-again : (piece rest : List ℕ) (offset : ℤ) → DerivesOffset piece offset → Ends rest → offset_at (piece ++ rest) ≡ Ok (offset, rest)
unfolding offset_at
offset_at-again piece rest offset h ends =
    rw (signed_at-again OffsetHours piece rest h.west h.has_west ends) (ap (λ (k : ℤ). Ok (k, rest)) (sym h.value))

-- a name ends a clock
letter-ends : (byte : ℕ) → is_ascii_alphabetic byte ≡ true → (is_ascii_digit byte ≡ false) × ((byte == 58) ≡ false) × ((byte == 47) ≡ false)
letter-ends byte letter = (grind (arith, nat_tests), grind (arith, nat_tests), grind (arith, nat_tests))

letters-ends : (name rest : List ℕ) → IsTrue (list_all is_ascii_alphabetic name) → 3 ≤ length name → Ends (name ++ rest)
letters-ends [] rest letters long = absurd (omega (arith, long))
letters-ends (byte ∷ bytes) rest letters long =
    let ends = letter-ends byte (and_parts (is_ascii_alphabetic byte) (list_all is_ascii_alphabetic bytes) letters).0 in
    record { digit = ends.0; colon = ends.1; slash = ends.2 }

name-ends : (piece rest name : List ℕ) → DerivesName piece name → Ends (piece ++ rest)
name-ends piece rest name (inl h) = rw h.spelled (letters-ends name rest h.letters h.long)
name-ends piece rest name (inr h) = rw h.spelled (record { digit = refl; colon = refl; slash = refl })

-- a name has a byte, and so has daylight saving time
name-some : (piece rest name : List ℕ) → DerivesName piece name → 0 < length (piece ++ rest)
name-some piece rest name (inl h) = rw h.spelled (omega (arith, h.long, length-append name rest))
name-some piece rest name (inr h) = rw h.spelled (omega arith)

daylight-some : (standard : ℤ) (text : List ℕ) (daylight : DaylightParts) → DerivesDaylight standard text daylight → 0 < length text
daylight-some standard text daylight h =
    subst (λ (xs : List ℕ). 0 < length xs) (sym h.spelled) (name-some h.first (h.second ++ (h.third ++ h.fourth)) daylight.name h.has_name)

-- an offset has a byte
offset-taken : (standard : ℤ) (text : List ℕ) (offset : ℤ) (rest piece : List ℕ) → text ≡ piece ++ rest → DerivesOffset piece offset
    → Taken (DerivesDaylightOffset standard) text offset rest
offset-taken standard text offset rest [] parts is = absurd (signed-some OffsetHours [] is.west is.has_west refl)
offset-taken standard text offset rest (byte ∷ bytes) parts is = record { piece = byte ∷ bytes; parts = parts; is = is }

daylight_offset_at-ok : (standard : ℤ) (text : List ℕ) (y : ℤ × List ℕ) → daylight_offset_at standard text ≡ Ok y
    → Taken (DerivesDaylightOffset standard) text y.0 y.1
daylight_offset_at-ok standard [] y e = let t = offset_at-ok [] y e in offset-taken standard [] y.0 y.1 t.piece t.parts t.is
daylight_offset_at-ok standard (byte ∷ bytes) y e =
    elim (chosen (byte == 44) _ _ _ e) [
      | inl h ↦
          subst (λ (z : ℤ × List ℕ). Taken (DerivesDaylightOffset standard) (byte ∷ bytes) z.0 z.1) (ok_same _ _ h.1)
          (record { piece = []; parts = refl; is = refl })
      | inr h ↦ let t = offset_at-ok (byte ∷ bytes) y h.1 in offset-taken standard (byte ∷ bytes) y.0 y.1 t.piece t.parts t.is
    ]

daylight_offset_at-other : (standard : ℤ) (text : List ℕ) → Stops (λ byte. byte == 44) text → daylight_offset_at standard text ≡ offset_at text
daylight_offset_at-other standard [] stops = refl
daylight_offset_at-other standard (byte ∷ bytes) stops = rw stops refl

-- an offset, or the moment that follows where there is none
daylight_offset_at-again : (standard : ℤ) (piece third rest : List ℕ) (offset : ℤ) (from : MomentParts) → DerivesDaylightOffset standard piece offset
    → DerivesMoment third from → daylight_offset_at standard (piece ++ (third ++ rest)) ≡ Ok (offset, third ++ rest)
daylight_offset_at-again standard [] third rest offset from h m =
    ap (λ (xs : List ℕ). daylight_offset_at standard (xs ++ rest)) m.spelled
    ∙ ap (λ (k : ℤ). Ok (k, 44 ∷ ((m.first ++ m.second) ++ rest))) (sym h)
    ∙ ap (λ (xs : List ℕ). Ok (offset, xs ++ rest)) (sym m.spelled)
daylight_offset_at-again standard (byte ∷ bytes) third rest offset from h m =
    daylight_offset_at-other standard (byte ∷ (bytes ++ (third ++ rest))) (signed-begins OffsetHours (byte ∷ bytes) (third ++ rest) h.west h.has_west)
    ∙ offset_at-again (byte ∷ bytes) (third ++ rest) offset h (moment-ends third rest from m)

daylight_offset-no_letter : (standard : ℤ) (piece third rest : List ℕ) (offset : ℤ) (from : MomentParts) → DerivesDaylightOffset standard piece offset
    → DerivesMoment third from → Stops is_ascii_alphabetic (piece ++ (third ++ rest))
daylight_offset-no_letter standard [] third rest offset from h m = moment-no_letter third rest from m
daylight_offset-no_letter standard (byte ∷ bytes) third rest offset from h m =
    signed-no_letter OffsetHours (byte ∷ bytes) (third ++ rest) h.west h.has_west

daylight_at-ok : (standard : ℤ) (text : List ℕ) (y : DaylightParts × List ℕ) → daylight_at standard text ≡ Ok y
    → Taken (DerivesDaylight standard) text y.0 y.1
unfolding daylight_at
daylight_at-ok standard text y e =
    let a = bind_ok (name_at text) _ y e in
    let name = name_at-ok text a.0 a.1 in
    let b = bind_ok (daylight_offset_at standard a.0.1) _ y a.2 in
    let offset = daylight_offset_at-ok standard a.0.1 b.0 b.1 in
    let c = bind_ok (moment_at b.0.1) _ y b.2 in
    let from = moment_at-ok b.0.1 c.0 c.1 in
    let d = bind_ok (moment_at c.0.1) _ y c.2 in
    let until = moment_at-ok c.0.1 d.0 d.1 in
    let last = two b.0.1 from.piece c.0.1 until.piece d.0.1 from.parts until.parts in
    let after_name = two a.0.1 offset.piece b.0.1 (from.piece ++ until.piece) d.0.1 offset.parts last in
    subst (λ (z : DaylightParts × List ℕ). Taken (DerivesDaylight standard) text z.0 z.1) (ok_same _ _ d.2) (record {
      piece = name.piece ++ (offset.piece ++ (from.piece ++ until.piece));
      parts = two text name.piece a.0.1 (offset.piece ++ (from.piece ++ until.piece)) d.0.1 name.parts after_name;
      is = record {
        first = name.piece;
        second = offset.piece;
        third = from.piece;
        fourth = until.piece;
        spelled = refl;
        has_name = name.is;
        has_offset = offset.is;
        has_from = from.is;
        has_until = until.is;
      };
    })

daylight_at-again : (standard : ℤ) (text : List ℕ) (daylight : DaylightParts) → DerivesDaylight standard text daylight
    → daylight_at standard text ≡ Ok (daylight, [])
unfolding daylight_at
daylight_at-again standard text daylight h =
    let fourth : h.fourth ≡ h.fourth ++ [] = sym (append-nil h.fourth) in
    let whole : text ≡ h.first ++ (h.second ++ (h.third ++ (h.fourth ++ []))) =
    h.spelled ∙ ap (λ (xs : List ℕ). h.first ++ (h.second ++ (h.third ++ xs))) fourth in
    let ends : Ends [] = record { digit = tt; colon = tt; slash = tt } in
    ap (daylight_at standard) whole
    ∙ rw (name_at-again h.first (h.second ++ (h.third ++ (h.fourth ++ []))) daylight.name h.has_name
    (daylight_offset-no_letter standard h.second h.third (h.fourth ++ []) daylight.offset daylight.from h.has_offset h.has_from))
    (rw (daylight_offset_at-again standard h.second h.third (h.fourth ++ []) daylight.offset daylight.from h.has_offset h.has_from)
    (rw (moment_at-again h.third (h.fourth ++ []) daylight.from h.has_from (moment-ends h.fourth [] daylight.until h.has_until))
    (rw (moment_at-again h.fourth [] daylight.until h.has_until ends) refl)))

rule_after-ok : (name : List ℕ) (offset : ℤ) (text : List ℕ) (rule : RuleParts) → rule_after name offset text ≡ Ok rule
    → (name ≡ rule.name) × (offset ≡ rule.offset) × DerivesRest offset text rule.daylight
unfolding rule_with_daylight
rule_after-ok name offset [] rule e =
    subst (λ (r : RuleParts). (name ≡ r.name) × (offset ≡ r.offset) × DerivesRest offset [] r.daylight) (ok_same _ _ e) (refl, refl, refl)
rule_after-ok name offset (byte ∷ bytes) rule e =
    let a = bind_ok (daylight_at offset (byte ∷ bytes)) _ rule e in
    let d = daylight_at-ok offset (byte ∷ bytes) a.0 a.1 in
    elim (chosen (length a.0.1 == 0) _ _ _ a.2) [
      | inl h ↦
          let whole : byte ∷ bytes ≡ d.piece =
          d.parts ∙ ap (λ (xs : List ℕ). d.piece ++ xs) (no_length a.0.1 h.0) ∙ append-nil d.piece in
          subst (λ (r : RuleParts). (name ≡ r.name) × (offset ≡ r.offset) × DerivesRest offset (byte ∷ bytes) r.daylight) (ok_same _ _ h.1)
          (refl, refl, subst (λ (xs : List ℕ). DerivesDaylight offset xs a.0.0) (sym whole) d.is)
      | inr h ↦ absurd (no_ok _ _ h.1)
    ]

rule_after-some : (name : List ℕ) (offset : ℤ) (text : List ℕ) → 0 < length text → rule_after name offset text ≡ rule_with_daylight name offset text
rule_after-some name offset [] some = absurd (omega (arith, some))
rule_after-some name offset (byte ∷ bytes) some = refl

rule_after-again : (name : List ℕ) (offset : ℤ) (text : List ℕ) (daylight : Option DaylightParts) → DerivesRest offset text daylight
    → rule_after name offset text ≡ Ok (record { name = name; offset = offset; daylight = daylight })
unfolding rule_with_daylight
rule_after-again name offset text None h = rw h refl
rule_after-again name offset text (Some daylight) h =
    rule_after-some name offset text (daylight-some offset text daylight h) ∙ rw (daylight_at-again offset text daylight h) refl

-- what follows the offset of standard time
rest-ends : (offset : ℤ) (text : List ℕ) (daylight : Option DaylightParts) → DerivesRest offset text daylight → Ends text
rest-ends offset text None h = rw h (record { digit = tt; colon = tt; slash = tt })
rest-ends offset text (Some daylight) h =
    subst (λ (xs : List ℕ). Ends xs) (sym h.spelled) (name-ends h.first (h.second ++ (h.third ++ h.fourth)) daylight.name h.has_name)

pub rule_in-ok : (text : List ℕ) (rule : RuleParts) → rule_in text ≡ Ok rule → Derives text rule
unfolding rule_in
rule_in-ok text rule e =
    let a = bind_ok (name_at text) _ rule e in
    let name = name_at-ok text a.0 a.1 in
    let b = bind_ok (offset_at a.0.1) _ rule a.2 in
    let offset = offset_at-ok a.0.1 b.0 b.1 in
    let rest = rule_after-ok a.0.0 b.0.0 b.0.1 rule b.2 in
    record {
      first = name.piece;
      second = offset.piece;
      third = b.0.1;
      spelled = name.parts ∙ ap (λ (xs : List ℕ). name.piece ++ xs) offset.parts;
      has_name = subst (λ (n : List ℕ). DerivesName name.piece n) rest.0 name.is;
      has_offset = subst (λ (o : ℤ). DerivesOffset offset.piece o) rest.1 offset.is;
      has_rest = subst (λ (o : ℤ). DerivesRest o b.0.1 rule.daylight) rest.1 rest.2;
    }

pub rule_in-again : (text : List ℕ) (rule : RuleParts) → Derives text rule → rule_in text ≡ Ok rule
unfolding rule_in
rule_in-again text rule h =
    ap rule_in h.spelled
    ∙ rw (name_at-again h.first (h.second ++ h.third) rule.name h.has_name
    (signed-no_letter OffsetHours h.second h.third h.has_offset.west h.has_offset.has_west))
    (rw (offset_at-again h.second h.third rule.offset h.has_offset (rest-ends rule.offset h.third rule.daylight h.has_rest))
    (rule_after-again rule.name rule.offset h.third rule.daylight h.has_rest))

-- ---- with the place of a fault

-- what is read is derived
pub read-derived : {A : Type 0} (text : List ℕ) (parts : A → RuleParts) (r : Result A RuleRefusal)
    → result_map_both parts (λ refusal. refusal) r ≡ rule_of text → IfOk r (λ rule. Derives text (parts rule))
unfolding rule_of
read-derived text parts (Ok rule) e = rule_in-ok text (parts rule) (ok_of text (parts rule) (rule_in text) (sym e)) where
  ok_of : (text : List ℕ) (rule : RuleParts) (s : Result RuleParts Stop) → result_map_both (λ rule. rule) (refusal_of text) s ≡ Ok rule → s ≡ Ok rule
  ok_of text rule (Ok other) h = cc
  ok_of text rule (Err stop) h = absurd cc
read-derived text parts (Err refusal) e = tt

-- what is derived is read
pub rule_of-again : (text : List ℕ) (rule : RuleParts) → Derives text rule → rule_of text ≡ Ok rule
unfolding rule_of
rule_of-again text rule h = rw (rule_in-again text rule h) refl
