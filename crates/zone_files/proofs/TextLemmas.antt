-- What is read of a rule's text is derived by the grammar, and the other way round.
use Rattle.std.proofs.Common.{◌≡◌, ◌⊎◌, inl, inr, refl, sym, ap, subst, ◌∙◌, ℕ, ◌+◌, ◌≤◌, ◌<◌, ◌==◌, arith}
use Rattle.std.proofs.Common.{Bool, true, false, List, [], ◌∷◌, ◌++◌, append_assoc, length, length-append, Result, Ok, Err}
use Rattle.std.proofs.Common.{ℤ}
use Rattle.std.specs.Prelude.{if◌then◌else◌, nat_le}
use Rattle.std.specs.Char.{is_ascii_digit, is_ascii_alphabetic}
use Rattle.std.proofs.lemmas.Bool.{cases_Bool, eqb-true, and_parts}
use Rattle.std.proofs.lemmas.Bool.Decides.{nat_tests}
use Rattle.zone_files.specs.Grammar.{DerivesNumber, DerivesSeconds, DerivesSixtieths, DerivesMinutes, DerivesClock, Sign, sign_text, is_minus, DerivesSigned}
use Rattle.zone_files.specs.Grammar.Sign.{Unsigned, Plus, Minus}
use Rattle.zone_files.specs.Numbers.{is_number, least_digits}
use Rattle.zone_files.specs.Pieces.{front}
use Rattle.zone_files.specs.Reading.{◌>>=◌, number_at, after_byte, seconds_at, sixtieths_at, minutes_at, clock_at, sign_at, with_sign, signed_at}
use Rattle.zone_files.specs.declared.numbers.Field.{Field}
use Rattle.zone_files.specs.declared.numbers.Field.TheVariants.{Month, Week, Weekday, Common, Counted, OffsetHours, TimeHours, Sixtieth}
use Rattle.zone_files.proofs.FrontLemmas.{Stops, front-past, front-passes, front-append, past-append, stops-other}

-- ---- two readings, one after the other

pub bind_ok : {A B E : Type 0} (r : Result A E) (f : A → Result B E) (y : B) → (r >>= f) ≡ Ok y → (x : A) × (r ≡ Ok x) × (f x ≡ Ok y)
bind_ok (Ok x) f y e = (x, refl, e)
bind_ok (Err stop) f y e = absurd cc

pub chosen : {A : Type 0} (b : Bool) (x y z : A) → (if b then x else y) ≡ z → ((b ≡ true) × (x ≡ z)) ⊎ ((b ≡ false) × (y ≡ z))
chosen true x y z e = inl (refl, e)
chosen false x y z e = inr (refl, e)

pub ok_same : {A E : Type 0} (x y : A) → ◌≡◌ {A = Result A E} (Ok x) (Ok y) → x ≡ y
ok_same x y e = cc

pub no_ok : {A E : Type 0} (stop : E) (y : A) → ◌≡◌ {A = Result A E} (Err stop) (Ok y) → ⊥
no_ok stop y e = cc

-- the front of a text derives a value, and this follows it
pub record Taken {A : Type 0} (D : List ℕ → A → Type 0) (text : List ℕ) (value : A) (rest : List ℕ) : Type 0 where
  pub piece : List ℕ
  pub parts : text ≡ piece ++ rest
  pub is : D piece value

-- two pieces
pub two : (a x b y c : List ℕ) → a ≡ x ++ b → b ≡ y ++ c → a ≡ (x ++ y) ++ c
two a x b y c p q = p ∙ ap (λ (t : List ℕ). x ++ t) q ∙ sym (append_assoc x y c)

-- ---- numbers

pub number_at-ok : (field : Field) (text : List ℕ) (y : ℕ × List ℕ) → number_at field text ≡ Ok y → Taken (DerivesNumber field) text y.0 y.1
unfolding number_at
number_at-ok field text y e =
    elim (chosen (is_number field (front is_ascii_digit text)) _ _ _ e) [
      | inl h ↦
          subst (λ (z : ℕ × List ℕ). Taken (DerivesNumber field) text z.0 z.1) (ok_same _ _ h.1) (record {
            piece = front is_ascii_digit text;
            parts = front-past is_ascii_digit text;
            is = record { digits = front-passes is_ascii_digit text; fits = h.0; value = refl };
          })
      | inr h ↦ absurd (no_ok _ _ h.1)
    ]

pub number_at-again : (field : Field) (piece rest : List ℕ) (n : ℕ) → DerivesNumber field piece n → Stops is_ascii_digit rest
    → number_at field (piece ++ rest) ≡ Ok (n, rest)
unfolding number_at
number_at-again field piece rest n h stops =
    rw (front-append is_ascii_digit piece rest h.digits stops) (rw (past-append is_ascii_digit piece rest h.digits stops) (rw h.fits (rw h.value refl)))

-- a number has a digit
least-some : (field : Field) → 1 ≤ least_digits field
least-some Month = omega arith
least-some Week = omega arith
least-some Weekday = omega arith
least-some Common = omega arith
least-some Counted = omega arith
least-some OffsetHours = omega arith
least-some TimeHours = omega arith
least-some Sixtieth = omega arith

le-true : (a b : ℕ) → nat_le a b ≡ true → a ≤ b
le-true a b e = grind (arith, nat_tests)

pub number-some : (field : Field) (text : List ℕ) (n : ℕ) → DerivesNumber field text n → 0 < length text
number-some field text n h =
    let low : least_digits field ≤ length text = le-true _ _ (and_parts _ _ h.fits).0 in
    omega (arith, low, least-some field)

digit-other : (other : ℕ) → is_ascii_digit other ≡ false → (byte : ℕ) → is_ascii_digit byte ≡ true → (byte == other) ≡ false
digit-other other no_digit byte digit =
    elim (cases_Bool (byte == other)) [
      | inl t ↦ let bad = rw (eqb-true byte other t) at digit in absurd cc
      | inr t ↦ t
    ]

-- a text that begins with a number does not begin with another byte
pub number-begins : (field : Field) (piece rest : List ℕ) (n other : ℕ) → DerivesNumber field piece n → is_ascii_digit other ≡ false
    → Stops (λ byte. byte == other) (piece ++ rest)
number-begins field piece rest n other h no_digit =
    stops-other is_ascii_digit (λ byte. byte == other) piece rest (digit-other other no_digit) (number-some field piece n h) h.digits

digit-no_letter : (byte : ℕ) → is_ascii_digit byte ≡ true → is_ascii_alphabetic byte ≡ false
digit-no_letter byte digit = grind (arith, nat_tests)

pub number-no_letter : (field : Field) (piece rest : List ℕ) (n : ℕ) → DerivesNumber field piece n → Stops is_ascii_alphabetic (piece ++ rest)
number-no_letter field piece rest n h =
    stops-other is_ascii_digit is_ascii_alphabetic piece rest digit-no_letter (number-some field piece n h) h.digits

-- ---- a byte that has to stand in front

pub after_byte-ok : (wanted : ℕ) (text rest : List ℕ) → after_byte wanted text ≡ Ok rest → text ≡ wanted ∷ rest
after_byte-ok wanted [] rest e = absurd (no_ok _ _ e)
after_byte-ok wanted (byte ∷ bytes) rest e =
    elim (chosen (byte == wanted) _ _ _ e) [
      | inl h ↦ rw (eqb-true byte wanted h.0) (ap (λ (t : List ℕ). wanted ∷ t) (ok_same _ _ h.1))
      | inr h ↦ absurd (no_ok _ _ h.1)
    ]

-- ---- clocks

-- what follows a clock
pub record Ends (rest : List ℕ) : Type 0 where
  pub digit : Stops is_ascii_digit rest
  pub colon : Stops (λ byte. byte == 58) rest
  pub slash : Stops (λ byte. byte == 47) rest

pub seconds_at-ok : (text : List ℕ) (y : ℕ × List ℕ) → seconds_at text ≡ Ok y → Taken DerivesSeconds text y.0 y.1
seconds_at-ok [] y e =
    subst (λ (z : ℕ × List ℕ). Taken DerivesSeconds [] z.0 z.1) (ok_same _ _ e) (record { piece = []; parts = refl; is = refl })
seconds_at-ok (byte ∷ bytes) y e =
    elim (chosen (byte == 58) _ _ _ e) [
      | inl h ↦
          let t = number_at-ok Sixtieth bytes y h.1 in
          record { piece = byte ∷ t.piece; parts = ap (λ (xs : List ℕ). byte ∷ xs) t.parts; is = (eqb-true byte 58 h.0, t.is) }
      | inr h ↦
          subst (λ (z : ℕ × List ℕ). Taken DerivesSeconds (byte ∷ bytes) z.0 z.1) (ok_same _ _ h.1) (record { piece = []; parts = refl; is = refl })
    ]

seconds_at-none : (rest : List ℕ) → Stops (λ byte. byte == 58) rest → seconds_at rest ≡ Ok (0, rest)
seconds_at-none [] stops = refl
seconds_at-none (byte ∷ bytes) stops = rw stops refl

pub seconds_at-again : (piece rest : List ℕ) (n : ℕ) → DerivesSeconds piece n → Ends rest → seconds_at (piece ++ rest) ≡ Ok (n, rest)
seconds_at-again [] rest n h ends = rw h (seconds_at-none rest ends.colon)
seconds_at-again (byte ∷ bytes) rest n h ends = rw h.0 (number_at-again Sixtieth bytes rest n h.1 ends.digit)

-- seconds, or what follows them, begin with no digit
seconds-no_digit : (piece rest : List ℕ) (n : ℕ) → DerivesSeconds piece n → Ends rest → Stops is_ascii_digit (piece ++ rest)
seconds-no_digit [] rest n h ends = ends.digit
seconds-no_digit (byte ∷ bytes) rest n h ends = rw h.0 refl

pub sixtieths_at-ok : (text : List ℕ) (y : ℕ × List ℕ) → sixtieths_at text ≡ Ok y → Taken DerivesSixtieths text y.0 y.1
unfolding sixtieths_at
sixtieths_at-ok text y e =
    let a = bind_ok (number_at Sixtieth text) _ y e in
    let m = number_at-ok Sixtieth text a.0 a.1 in
    let b = bind_ok (seconds_at a.0.1) _ y a.2 in
    let s = seconds_at-ok a.0.1 b.0 b.1 in
    subst (λ (z : ℕ × List ℕ). Taken DerivesSixtieths text z.0 z.1) (ok_same _ _ b.2) (record {
      piece = m.piece ++ s.piece;
      parts = two text m.piece a.0.1 s.piece b.0.1 m.parts s.parts;
      is = record {
        first = m.piece;
        second = s.piece;
        minutes = a.0.0;
        seconds = b.0.0;
        spelled = refl;
        has_minutes = m.is;
        has_seconds = s.is;
        value = refl;
      };
    })

pub sixtieths_at-again : (piece rest : List ℕ) (n : ℕ) → DerivesSixtieths piece n → Ends rest → sixtieths_at (piece ++ rest) ≡ Ok (n, rest)
unfolding sixtieths_at
sixtieths_at-again piece rest n h ends =
    let whole : piece ++ rest ≡ h.first ++ (h.second ++ rest) = ap (λ (xs : List ℕ). xs ++ rest) h.spelled ∙ append_assoc h.first h.second rest in
    ap sixtieths_at whole
    ∙ rw (number_at-again Sixtieth h.first (h.second ++ rest) h.minutes h.has_minutes (seconds-no_digit h.second rest h.seconds h.has_seconds ends))
    (rw (seconds_at-again h.second rest h.seconds h.has_seconds ends) (ap (λ (k : ℕ). Ok (k, rest)) (sym h.value)))

pub minutes_at-ok : (text : List ℕ) (y : ℕ × List ℕ) → minutes_at text ≡ Ok y → Taken DerivesMinutes text y.0 y.1
minutes_at-ok [] y e =
    subst (λ (z : ℕ × List ℕ). Taken DerivesMinutes [] z.0 z.1) (ok_same _ _ e) (record { piece = []; parts = refl; is = refl })
minutes_at-ok (byte ∷ bytes) y e =
    elim (chosen (byte == 58) _ _ _ e) [
      | inl h ↦
          let t = sixtieths_at-ok bytes y h.1 in
          record { piece = byte ∷ t.piece; parts = ap (λ (xs : List ℕ). byte ∷ xs) t.parts; is = (eqb-true byte 58 h.0, t.is) }
      | inr h ↦
          subst (λ (z : ℕ × List ℕ). Taken DerivesMinutes (byte ∷ bytes) z.0 z.1) (ok_same _ _ h.1) (record { piece = []; parts = refl; is = refl })
    ]

minutes_at-none : (rest : List ℕ) → Stops (λ byte. byte == 58) rest → minutes_at rest ≡ Ok (0, rest)
minutes_at-none [] stops = refl
minutes_at-none (byte ∷ bytes) stops = rw stops refl

pub minutes_at-again : (piece rest : List ℕ) (n : ℕ) → DerivesMinutes piece n → Ends rest → minutes_at (piece ++ rest) ≡ Ok (n, rest)
minutes_at-again [] rest n h ends = rw h (minutes_at-none rest ends.colon)
minutes_at-again (byte ∷ bytes) rest n h ends = rw h.0 (sixtieths_at-again bytes rest n h.1 ends)

minutes-no_digit : (piece rest : List ℕ) (n : ℕ) → DerivesMinutes piece n → Ends rest → Stops is_ascii_digit (piece ++ rest)
minutes-no_digit [] rest n h ends = ends.digit
minutes-no_digit (byte ∷ bytes) rest n h ends = rw h.0 refl

pub clock_at-ok : (field : Field) (text : List ℕ) (y : ℕ × List ℕ) → clock_at field text ≡ Ok y → Taken (DerivesClock field) text y.0 y.1
unfolding clock_at
clock_at-ok field text y e =
    let a = bind_ok (number_at field text) _ y e in
    let m = number_at-ok field text a.0 a.1 in
    let b = bind_ok (minutes_at a.0.1) _ y a.2 in
    let s = minutes_at-ok a.0.1 b.0 b.1 in
    subst (λ (z : ℕ × List ℕ). Taken (DerivesClock field) text z.0 z.1) (ok_same _ _ b.2) (record {
      piece = m.piece ++ s.piece;
      parts = two text m.piece a.0.1 s.piece b.0.1 m.parts s.parts;
      is = record {
        first = m.piece;
        second = s.piece;
        hours = a.0.0;
        rest = b.0.0;
        spelled = refl;
        has_hours = m.is;
        has_rest = s.is;
        value = refl;
      };
    })

pub clock_at-again : (field : Field) (piece rest : List ℕ) (n : ℕ) → DerivesClock field piece n → Ends rest → clock_at field (piece ++ rest) ≡ Ok (n, rest)
unfolding clock_at
clock_at-again field piece rest n h ends =
    let whole : piece ++ rest ≡ h.first ++ (h.second ++ rest) = ap (λ (xs : List ℕ). xs ++ rest) h.spelled ∙ append_assoc h.first h.second rest in
    ap (clock_at field) whole
    ∙ rw (number_at-again field h.first (h.second ++ rest) h.hours h.has_hours (minutes-no_digit h.second rest h.rest h.has_rest ends))
    (rw (minutes_at-again h.second rest h.rest h.has_rest ends) (ap (λ (k : ℕ). Ok (k, rest)) (sym h.value)))

-- a text that begins with a clock does not begin with another byte
pub clock-begins : (field : Field) (piece rest : List ℕ) (n other : ℕ) → DerivesClock field piece n → is_ascii_digit other ≡ false
    → Stops (λ byte. byte == other) (piece ++ rest)
clock-begins field piece rest n other h no_digit =
    subst (λ (xs : List ℕ). Stops (λ byte. byte == other) xs)
    (sym (ap (λ (xs : List ℕ). xs ++ rest) h.spelled ∙ append_assoc h.first h.second rest))
    (number-begins field h.first (h.second ++ rest) h.hours other h.has_hours no_digit)

pub clock-no_letter : (field : Field) (piece rest : List ℕ) (n : ℕ) → DerivesClock field piece n → Stops is_ascii_alphabetic (piece ++ rest)
clock-no_letter field piece rest n h =
    subst (λ (xs : List ℕ). Stops is_ascii_alphabetic xs)
    (sym (ap (λ (xs : List ℕ). xs ++ rest) h.spelled ∙ append_assoc h.first h.second rest))
    (number-no_letter field h.first (h.second ++ rest) h.hours h.has_hours)

-- ---- signs

pub record Signed (text : List ℕ) : Type 0 where
  pub sign : Sign
  pub spelled : text ≡ sign_text sign ++ (sign_at text).1
  pub minus : (sign_at text).0 ≡ is_minus sign

sign_at-is : (text : List ℕ) → Signed text
sign_at-is [] = record { sign = Unsigned; spelled = refl; minus = refl }
sign_at-is (byte ∷ bytes) =
    elim (cases_Bool (byte == 45)) [
      | inl t ↦
          record {
            sign = Minus;
            spelled = rw t (ap (λ (b : ℕ). b ∷ bytes) (eqb-true byte 45 t));
            minus = rw t refl;
          }
      | inr t ↦
          elim (cases_Bool (byte == 43)) [
            | inl u ↦
                record {
                  sign = Plus;
                  spelled = rw t (rw u (ap (λ (b : ℕ). b ∷ bytes) (eqb-true byte 43 u)));
                  minus = rw t (rw u refl);
                }
            | inr u ↦ record { sign = Unsigned; spelled = rw t (rw u refl); minus = rw t (rw u refl) }
          ]
    ]

sign_at-again : (sign : Sign) (rest : List ℕ) → Stops (λ byte. byte == 45) rest → Stops (λ byte. byte == 43) rest
    → sign_at (sign_text sign ++ rest) ≡ (is_minus sign, rest)
sign_at-again Unsigned [] minus plus = refl
sign_at-again Unsigned (byte ∷ bytes) minus plus = rw minus (rw plus refl)
sign_at-again Plus rest minus plus = refl
sign_at-again Minus rest minus plus = refl

pub signed_at-ok : (field : Field) (text : List ℕ) (y : ℤ × List ℕ) → signed_at field text ≡ Ok y → Taken (DerivesSigned field) text y.0 y.1
unfolding signed_at
signed_at-ok field text y e =
    let sign = sign_at-is text in
    let a = bind_ok (clock_at field (sign_at text).1) _ y e in
    let c = clock_at-ok field (sign_at text).1 a.0 a.1 in
    subst (λ (z : ℤ × List ℕ). Taken (DerivesSigned field) text z.0 z.1) (ok_same _ _ a.2) (record {
      piece = sign_text sign.sign ++ c.piece;
      parts = two text (sign_text sign.sign) (sign_at text).1 c.piece a.0.1 sign.spelled c.parts;
      is = record {
        sign = sign.sign;
        clock = c.piece;
        count = a.0.0;
        spelled = refl;
        has_count = c.is;
        value = ap (λ (b : Bool). with_sign b a.0.0) sign.minus;
      };
    })

pub signed_at-again : (field : Field) (piece rest : List ℕ) (seconds : ℤ) → DerivesSigned field piece seconds → Ends rest
    → signed_at field (piece ++ rest) ≡ Ok (seconds, rest)
unfolding signed_at
signed_at-again field piece rest seconds h ends =
    let whole : piece ++ rest ≡ sign_text h.sign ++ (h.clock ++ rest) =
    ap (λ (xs : List ℕ). xs ++ rest) h.spelled ∙ append_assoc (sign_text h.sign) h.clock rest in
    let sign = sign_at-again h.sign (h.clock ++ rest) (clock-begins field h.clock rest h.count 45 h.has_count refl)
    (clock-begins field h.clock rest h.count 43 h.has_count refl) in
    ap (signed_at field) whole
    ∙ rw sign (rw (clock_at-again field h.clock rest h.count h.has_count ends) (ap (λ (k : ℤ). Ok (k, rest)) (sym h.value)))

-- a text that begins with a clock and perhaps a sign begins with no letter and no comma
signed-stops : (test : ℕ → Bool) (sign : Sign) (rest : List ℕ) → test 43 ≡ false → test 45 ≡ false → Stops test rest → Stops test (sign_text sign ++ rest)
signed-stops test Unsigned rest plus minus stops = stops
signed-stops test Plus rest plus minus stops = plus
signed-stops test Minus rest plus minus stops = minus

pub signed-begins : (field : Field) (piece rest : List ℕ) (seconds : ℤ) → DerivesSigned field piece seconds → Stops (λ byte. byte == 44) (piece ++ rest)
signed-begins field piece rest seconds h =
    subst (λ (xs : List ℕ). Stops (λ byte. byte == 44) xs)
    (sym (ap (λ (xs : List ℕ). xs ++ rest) h.spelled ∙ append_assoc (sign_text h.sign) h.clock rest))
    (signed-stops (λ byte. byte == 44) h.sign (h.clock ++ rest) refl refl (clock-begins field h.clock rest h.count 44 h.has_count refl))

pub signed-no_letter : (field : Field) (piece rest : List ℕ) (seconds : ℤ) → DerivesSigned field piece seconds → Stops is_ascii_alphabetic (piece ++ rest)
signed-no_letter field piece rest seconds h =
    subst (λ (xs : List ℕ). Stops is_ascii_alphabetic xs)
    (sym (ap (λ (xs : List ℕ). xs ++ rest) h.spelled ∙ append_assoc (sign_text h.sign) h.clock rest))
    (signed-stops is_ascii_alphabetic h.sign (h.clock ++ rest) refl refl (clock-no_letter field h.clock rest h.count h.has_count))

-- it has a byte
pub signed-some : (field : Field) (text : List ℕ) (seconds : ℤ) → DerivesSigned field text seconds → text ≡ [] → ⊥
signed-some field text seconds h e =
    let clock = h.has_count in
    let some = number-some field clock.first clock.hours clock.has_hours in
    let whole : length text ≡ length (sign_text h.sign) + (length clock.first + length clock.second) =
    ap length (h.spelled ∙ ap (λ (xs : List ℕ). sign_text h.sign ++ xs) clock.spelled)
    ∙ length-append (sign_text h.sign) (clock.first ++ clock.second)
    ∙ ap (λ (n : ℕ). length (sign_text h.sign) + n) (length-append clock.first clock.second) in
    omega (arith, some, whole, ap length e)
