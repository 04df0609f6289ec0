-- What the front of a text is read as.
use Rattle.std.proofs.Common.{◌≡◌, ℕ, ℤ, ◌-◌, ◌≤◌, ◌<◌, Bool, true, false, cond, nat_lt, List, [], ◌++◌, length}
use Rattle.std.proofs.Common.{Err, drop, length-append, append-nil, Option, Some, None, Result, Ok}
use Rattle.std.proofs.Common.{refl, sym, ap, ◌∙◌, arith, inl, inr, ◌∷◌}
use Rattle.std.specs.Prelude.{IfOk, OkIff, ◌⊎◌}
use Rattle.calendar_values.specs.WallClock.{IsWallClock}
use Rattle.offset_times.specs.Local.{Local, instant_of}
use Rattle.rfc3339.specs.declared.parts.Parts.{Parts}
use Rattle.rfc3339.specs.declared.refusal.TextRefusal.{TextRefusal}
use Rattle.rfc3339.specs.declared.refusal.Component.TheVariants.{OffsetHour, OffsetMinute}
use Rattle.rfc3339.specs.declared.refusal.TextRefusal.TheVariants.{OutOfRange, Syntax}
use Rattle.rfc3339.specs.Form.{IsDateTime, IsOffsetText}
use Rattle.std.proofs.Math.Seq.{drop-append_seam}
use Rattle.rfc3339.specs.Front.{with_length, front_meaning, front_reading_of, offset_of_numbers, offset_meaning, offset_reading_of}
use Rattle.rfc3339.specs.ReadInstantLemmas.{instant_of-in_range}
use Rattle.rfc3339.specs.Meaning.{AreInRange, offset_of, value_of, meaning}
use Rattle.rfc3339.specs.Reading.{◌>>=◌, front_at, with_no_rest, zone_at}
use Rattle.rfc3339.specs.Texts.{HasText}
use Rattle.std.proofs.lemmas.Bool.Decides.{nat_tests}
use Rattle.rfc3339.specs.FractionLemmas.{zone_again, zone_takes}
use Rattle.rfc3339.specs.MeaningLemmas.{meaning-ok, meaning-in_range, has_text_of}
use Rattle.rfc3339.specs.TextLemmas.{front_takes, front_again}

-- what follows is no longer than the text
pub length-rest : (text : List ℕ) (p : Parts) (rest : List ℕ) → Some (p, rest) ≡ front_at text → length rest ≤ length text
length-rest text p rest e =
    let front = front_takes text p rest (sym e) in omega (arith, ap (length {A = ℕ}) front.1.parts, length-append front.0 rest)

-- what is read of digits can be written
pub has_text_of-front : (p : Parts) (at : Local) → Ok at ≡ meaning p → p.nanosecond ≤ 999_999_999 → p.year ≤ 9_999 → HasText at
has_text_of-front p at e n y = has_text_of p (Ok at) e n y

pub ruleset fronts = (length-rest)

-- the reading of a text that begins with a stamp is the meaning of its numbers, with the number of its bytes
pub front_reading_of-spelled : (text stamp rest : List ℕ) (p : Parts) → text ≡ stamp ++ rest → IsDateTime stamp p
    → front_reading_of text ≡ with_length (length stamp) (meaning p)
unfolding front_reading_of
front_reading_of-spelled text stamp rest p e h =
    let count : length (stamp ++ rest) - length rest ≡ length stamp = omega (arith, length-append stamp rest) in
    rw (e, front_again stamp p rest h, count) refl

accepted-with_length : (p : Parts) (n : ℕ) (m : Result Local TextRefusal) → m ≡ meaning p → OkIff (with_length n m) (AreInRange p) (value_of p, n)
accepted-with_length p n (Ok at) e =
    let ok = meaning-ok p at (sym e) in (ok.0, ap (λ (z : Local). (z, n)) ok.1)
accepted-with_length p n (Err d) e = λ h. let bad = e ∙ meaning-in_range p h in absurd cc

-- a beginning that spells parts is accepted exactly where they are in their ranges
pub accepted_front : (text : List ℕ) (r : Result (Local × ℕ) TextRefusal) → r ≡ front_reading_of text → (stamp rest : List ℕ) (p : Parts)
    → text ≡ stamp ++ rest → IsDateTime stamp p → OkIff r (AreInRange p) (value_of p, length stamp)
accepted_front text r e stamp rest p s h =
    rw (e, front_reading_of-spelled text stamp rest p s h) (accepted-with_length p (length stamp) (meaning p) refl)

-- what is accepted begins with a stamp that spells parts in their ranges
spelled_with : (text stamp rest : List ℕ) (p : Parts) (m : Result Local TextRefusal) (x : Local × ℕ) → text ≡ stamp ++ rest → IsDateTime stamp p
    → meaning p ≡ m → with_length (length text - length rest) m ≡ Ok x
    → (text ≡ stamp ++ rest) × (length stamp ≡ x.1) × (rest ≡ drop x.1 text) × IsDateTime stamp p × AreInRange p × (x.0 ≡ value_of p)
spelled_with text stamp rest p (Err d) x e h means given = absurd cc
spelled_with text stamp rest p (Ok at) x e h means given =
    let same : (at, length text - length rest) ≡ x = cc in
    let ok = meaning-ok p at means in
    let size : length text - length rest ≡ length stamp = omega (arith, ap (length {A = ℕ}) e, length-append stamp rest) in
    let count : length stamp ≡ x.1 = sym size ∙ ap (λ (z : Local × ℕ). z.1) same in
    let behind : rest ≡ drop x.1 text = rw (← count, e) (sym (drop-append_seam stamp rest)) in
    (e, count, behind, h, ok.0, sym (ap (λ (z : Local × ℕ). z.0) same) ∙ ok.1)

spelled_at : (text : List ℕ) (o : Option (Parts × List ℕ)) (x : Local × ℕ) → front_at text ≡ o → front_meaning text o ≡ Ok x
    → (stamp : List ℕ) × (rest : List ℕ) × (p : Parts) × (text ≡ stamp ++ rest) × (length stamp ≡ x.1) × (rest ≡ drop x.1 text)
    × IsDateTime stamp p × AreInRange p × (x.0 ≡ value_of p)
spelled_at text None x e given = absurd cc
spelled_at text (Some read) x e given =
    let front = front_takes text read.0 read.1 e in
    let s = spelled_with text front.0 read.1 read.0 (meaning read.0) x front.1.parts front.1.is refl given in
    (front.0, read.1, read.0, s.0, s.1, s.2, s.3, s.4, s.5)

pub spelled_front : (text : List ℕ) (r : Result (Local × ℕ) TextRefusal) → r ≡ front_reading_of text
    → IfOk r (λ read. (stamp : List ℕ) × (rest : List ℕ) × (p : Parts) × (text ≡ stamp ++ rest) × (length stamp ≡ read.1)
    × (rest ≡ drop read.1 text) × IsDateTime stamp p × AreInRange p × (read.0 ≡ value_of p))
unfolding front_reading_of
spelled_front text (Err d) e = tt
spelled_front text (Ok x) e = spelled_at text (front_at text) x refl (sym e)

longest_with : (n : ℕ) (m : Result Local TextRefusal) → IfOk (with_length n m) (λ read. n ≤ read.1)
longest_with n (Ok at) = omega arith
longest_with n (Err d) = tt

-- and is the longest that has the form
pub longest_front : (text : List ℕ) (r : Result (Local × ℕ) TextRefusal) → r ≡ front_reading_of text → (stamp rest : List ℕ) (p : Parts)
    → text ≡ stamp ++ rest → IsDateTime stamp p → IfOk r (λ read. length stamp ≤ read.1)
longest_front text r e stamp rest p s h =
    rw (e, front_reading_of-spelled text stamp rest p s h) (longest_with (length stamp) (meaning p))

-- a text with no such beginning has another form
syntax_at : (text : List ℕ) (o : Option (Parts × List ℕ)) → front_at text ≡ o
    → (front_meaning text o ≡ Err Syntax) ⊎ ((stamp : List ℕ) × (rest : List ℕ) × (p : Parts) × (text ≡ stamp ++ rest) × IsDateTime stamp p)
syntax_at text None e = inl refl
syntax_at text (Some read) e =
    let front = front_takes text read.0 read.1 e in inr (front.0, read.1, read.0, front.1.parts, front.1.is)

pub front_reading_of-syntax : (text : List ℕ) → (front_reading_of text ≡ Err Syntax)
    ⊎ ((stamp : List ℕ) × (rest : List ℕ) × (p : Parts) × (text ≡ stamp ++ rest) × IsDateTime stamp p)
unfolding front_reading_of
front_reading_of-syntax text = syntax_at text (front_at text) refl

-- its instant lies in the range
pub instant_in_range : (r : Result (Local × ℕ) TextRefusal) → IfOk r (λ read. HasText read.0) → IfOk r (λ read. IsWallClock (instant_of read.0))
instant_in_range (Ok read) h = instant_of-in_range read.0 h
instant_in_range (Err refusal) h = tt

-- ---- an offset alone

accepted-numbers : (is_west : Bool) (hour minute : ℕ) (late over : Bool) → nat_lt 23 hour ≡ late → nat_lt 59 minute ≡ over
    → OkIff (cond late (Err (OutOfRange OffsetHour)) (cond over (Err (OutOfRange OffsetMinute)) (Ok (offset_of is_west hour minute))))
    ((hour ≤ 23) × (minute ≤ 59)) (offset_of is_west hour minute)
accepted-numbers is_west hour minute true over e f = λ h. grind (arith, nat_tests, h.0)
accepted-numbers is_west hour minute false true e f = λ h. grind (arith, nat_tests, h.1)
accepted-numbers is_west hour minute false false e f = ((grind (arith, nat_tests), grind (arith, nat_tests)), refl)

-- the reading of a text that spells numbers is their offset
pub offset_reading_of-spelled : (text : List ℕ) (is_west : Bool) (hour minute : ℕ)
    → IsOffsetText text is_west hour minute → hour < 100 → minute < 100 → offset_reading_of text ≡ offset_of_numbers is_west hour minute
unfolding offset_reading_of
offset_reading_of-spelled text is_west hour minute is h m =
    let zone = rw (append-nil text) at (zone_again text is_west hour minute [] is h m) in rw zone refl

pub accepted_offset : (text : List ℕ) (r : Result ℤ TextRefusal) → r ≡ offset_reading_of text → (is_west : Bool) (hour minute : ℕ)
    → IsOffsetText text is_west hour minute → hour < 100 → minute < 100
    → OkIff r ((hour ≤ 23) × (minute ≤ 59)) (offset_of is_west hour minute)
accepted_offset text r e is_west hour minute is h m =
    rw (e, offset_reading_of-spelled text is_west hour minute is h m)
    (accepted-numbers is_west hour minute (nat_lt 23 hour) (nat_lt 59 minute) refl refl)

-- the text is an offset of these numbers, of two digits each
abbrev SpellsOffset : List ℕ → Type 0
SpellsOffset text = (is_west : Bool) × (hour : ℕ) × (minute : ℕ) × IsOffsetText text is_west hour minute × (hour < 100) × (minute < 100)

-- a text whose numbers are read spells them
ended_zone : (text : List ℕ) (x : Bool × ℕ × ℕ) (rest : List ℕ) → zone_at text ≡ Some (x, rest)
    → (offset_meaning (with_no_rest x rest) ≡ Err Syntax) ⊎ SpellsOffset text
ended_zone text x (first ∷ rest) e = inl refl
ended_zone text x [] e =
    let zone = zone_takes text x.0 x.1 x.2 [] e in
    let whole : text ≡ zone.0 = zone.1.parts ∙ append-nil zone.0 in
    inr (x.0, x.1, x.2, rw whole zone.1.is, zone.1.hour_fits, zone.1.minute_fits)

zone_or_syntax : (text : List ℕ) (o : Option ((Bool × ℕ × ℕ) × List ℕ)) → zone_at text ≡ o
    → (offset_meaning (o >>= λ read. with_no_rest read.0 read.1) ≡ Err Syntax) ⊎ SpellsOffset text
zone_or_syntax text None e = inl refl
zone_or_syntax text (Some read) e = ended_zone text read.0 read.1 e

-- any other text has another form
pub offset_reading_of-syntax : (text : List ℕ) → (offset_reading_of text ≡ Err Syntax) ⊎ SpellsOffset text
unfolding offset_reading_of
offset_reading_of-syntax text = zone_or_syntax text (zone_at text) refl
