-- The pieces of a date-time without an offset.
use Rattle.std.proofs.Common.{◌≡◌, inl, inr, ℕ, ◌+◌, ◌/◌, ◌%◌, Bool, true, false, List, [], ◌∷◌, ◌++◌, length, drop}
use Rattle.std.proofs.Common.{append_assoc, length-append, refl, sym, ap, ◌∙◌, arith}
use Rattle.std.specs.Prelude.{codes, IsTrue, if◌then◌else◌}
use Rattle.std.proofs.Math.Seq.{drop-append_seam}
use Rattle.std.proofs.lemmas.List.{append_cancel_right}
use Rattle.calendar_values.specs.Digits.{last_digits}
use Rattle.calendar_values.specs.DigitCountLemmas.{length-last_digits}
use Rattle.rfc3339.specs.declared.parts.Parts.{Parts}
use Rattle.rfc3339.specs.Form.{is_separator, IsFraction, IsOffsetText, FitsDigits, date_digits, clock_digits, IsDateTime}

-- the bytes up to the second
abbrev pub to_second : Parts → ℕ → List ℕ
to_second p separator = date_digits p ++ separator ∷ [] ++ clock_digits p

-- the pieces of the text, and the numbers of the offset that it does not have
pub record LocalForm (text : List ℕ) (p : Parts) : Type 0 where
  pub separator : ℕ
  pub fraction : List ℕ
  pub spelled : text ≡ to_second p separator ++ fraction
  pub is_separator : IsTrue (is_separator separator)
  pub is_fraction : IsFraction fraction p.nanosecond
  pub is_east : p.is_west ≡ false
  pub no_hours : p.offset_hour ≡ 0
  pub no_minutes : p.offset_minute ≡ 0
  pub fits : FitsDigits p

-- two texts that are the same have the same last byte
last_same : (s t : List ℕ) (a b : ℕ) → s ++ a ∷ [] ≡ t ++ b ∷ [] → a ≡ b
last_same s t a b e =
    let size : length s ≡ length t =
    omega (arith, ap (length {A = ℕ}) e, length-append s (a ∷ []), length-append t (b ∷ [])) in
    let ends : a ∷ [] ≡ b ∷ [] =
    sym (drop-append_seam s (a ∷ [])) ∙ ap (drop (length s)) e ∙ ap (λ (n : ℕ). drop n (t ++ b ∷ [])) size ∙ drop-append_seam t (b ∷ []) in
    cc

-- the bytes of an offset of numbers but the last
abbrev offset_start : Bool → ℕ → ℕ → List ℕ
offset_start is_west hour minute = (if is_west then codes "-" else codes "+") ++ last_digits 2 hour ++ codes ":" ++ (48 + minute / 10 % 10) ∷ []

offset_split : (is_west : Bool) (hour minute : ℕ)
    → (if is_west then codes "-" else codes "+") ++ last_digits 2 hour ++ codes ":" ++ last_digits 2 minute
    ≡ offset_start is_west hour minute ++ (48 + minute % 10) ∷ []
unfolding last_digits
offset_split true hour minute = refl
offset_split false hour minute = refl

-- the pieces before the offset
before : (p : Parts) (separator : ℕ) (fraction offset : List ℕ)
    → date_digits p ++ separator ∷ [] ++ clock_digits p ++ fraction ++ offset ≡ (to_second p separator ++ fraction) ++ offset
before p separator fraction offset = simp append_assoc refl

-- an offset of a text that ends with Z is this Z
ends_with_z : (text start offset : List ℕ) (is_west : Bool) (hour minute : ℕ) → text ++ codes "Z" ≡ start ++ offset
    → IsOffsetText offset is_west hour minute → (text ≡ start) × (is_west ≡ false) × (hour ≡ 0) × (minute ≡ 0)
ends_with_z text start offset is_west hour minute e (inl (inl upper, east, hours, minutes)) =
    (append_cancel_right text start (codes "Z") (e ∙ ap (λ (z : List ℕ). start ++ z) upper), east, hours, minutes)
ends_with_z text start offset is_west hour minute e (inl (inr lower, east, hours, minutes)) =
    let bad = last_same text start 90 122 (e ∙ ap (λ (z : List ℕ). start ++ z) lower) in absurd (omega (arith, bad))
ends_with_z text start offset is_west hour minute e (inr numbers) =
    let split = numbers ∙ offset_split is_west hour minute in
    let whole = e ∙ ap (λ (z : List ℕ). start ++ z) split ∙ sym (append_assoc start (offset_start is_west hour minute) ((48 + minute % 10) ∷ [])) in
    let bad = last_same text (start ++ offset_start is_west hour minute) 90 (48 + minute % 10) whole in
    absurd (omega (arith, bad))

pub local_takes : (text : List ℕ) (p : Parts) → IsDateTime (text ++ codes "Z") p → LocalForm text p
local_takes text p h =
    let end = ends_with_z text (to_second p h.separator ++ h.fraction) h.offset p.is_west p.offset_hour p.offset_minute
    (h.spelled ∙ before p h.separator h.fraction h.offset) h.is_offset in
    record {
      separator = h.separator;
      fraction = h.fraction;
      spelled = end.0;
      is_separator = h.is_separator;
      is_fraction = h.is_fraction;
      is_east = end.1;
      no_hours = end.2;
      no_minutes = end.3;
      fits = h.fits;
    }

pub local_again : (text : List ℕ) (p : Parts) → LocalForm text p → IsDateTime (text ++ codes "Z") p
local_again text p h = record {
  separator = h.separator;
  fraction = h.fraction;
  offset = codes "Z";
  spelled = ap (λ (z : List ℕ). z ++ codes "Z") h.spelled ∙ sym (before p h.separator h.fraction (codes "Z"));
  is_separator = h.is_separator;
  is_fraction = h.is_fraction;
  is_offset = inl (inl refl, h.is_east, h.no_hours, h.no_minutes);
  fits = h.fits;
}

-- a date, a separator and a time of day to the second have 19 bytes
pub length-to_second : (p : Parts) (separator : ℕ) → length (to_second p separator) ≡ 19
length-to_second p separator = simp (length-append, length-last_digits) refl
