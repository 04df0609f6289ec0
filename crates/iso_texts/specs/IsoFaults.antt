-- The longest beginning of a text that also begins a date-time of ISO 8601: a sign and two digits, a date-time of RFC 3339, and the
-- seconds of its offset.
use Rattle.std.specs.Prelude.{◌≡◌, ◌≤◌, ◌<◌, ◌⊎◌, ℕ, suc, ◌==◌, ◌&&◌, Bool, true, false, nat_lt, List, [], ◌∷◌, ◌++◌, length, take, codes}
use Rattle.std.specs.Prelude.{if◌then◌else◌, Option, Some, None}
use Rattle.std.specs.Char.{is_ascii_digit}
use Rattle.calendar_values.specs.Digits.{last_digits}
use Rattle.rfc3339.specs.Form.{IsDateTime}
use Rattle.rfc3339.specs.Reading.{◌>>=◌, two_digits_at, part_at, year_at, separator_at, fraction_at, zone_at}
use Rattle.rfc3339.specs.declared.parts.Parts.{Parts}
use Rattle.iso_texts.specs.IsoForms.{IsIsoDateTime}
use Rattle.iso_texts.specs.IsoReading.{begins_with_sign}
use Rattle.iso_texts.specs.declared.parts.IsoParts.{IsoParts}

-- what follows the fraction of a date-time of RFC 3339
unfoldable pub offset_on : List ℕ → Option (List ℕ)
offset_on text = do
  year ← year_at text
  month ← part_at 45 year.1
  day ← part_at 45 month.1
  clock ← separator_at day.1
  hour ← two_digits_at clock
  minute ← part_at 58 hour.1
  second ← part_at 58 minute.1
  fraction ← fraction_at second.1
  Some fraction.1

-- an offset was read, and no text is left
abbrev pub is_whole : Option ((Bool × ℕ × ℕ) × List ℕ) → Bool
is_whole None = false
is_whole (Some (zone, [])) = true
is_whole (Some (zone, first ∷ rest)) = false

-- the text is an offset of a sign, hours and minutes
abbrev pub is_signed_offset : Option (List ℕ) → Bool
is_signed_offset None = false
is_signed_offset (Some text) = begins_with_sign text && is_whole (zone_at text)

-- the text is a date-time of RFC 3339 whose offset has a sign
unfoldable pub has_signed_offset : List ℕ → Bool
has_signed_offset text = is_signed_offset (offset_on text)

-- the second digit of the seconds
abbrev pub units_standing : List ℕ → ℕ
units_standing [] = 0
units_standing (byte ∷ text) = if is_ascii_digit byte then 1 else 0

-- two digits of the seconds, which are less than 60
abbrev pub tens_standing : List ℕ → ℕ
tens_standing [] = 0
tens_standing (byte ∷ text) = if is_ascii_digit byte && nat_lt byte 54 then suc (units_standing text) else 0

-- `:` and the seconds of an offset
unfoldable pub seconds_standing : List ℕ → ℕ
seconds_standing [] = 0
seconds_standing (byte ∷ text) = if byte == 58 then suc (tens_standing text) else 0

-- ---- the longest beginning of a text

-- n bytes of the text begin a text of the form, and no more do
pub record IsLongest (G : List ℕ → Type 0) (text : List ℕ) (n : ℕ) : Type 0 where
  pub at_most : n ≤ length text
  pub begins : (rest : List ℕ) × G (take n text ++ rest)
  pub longest : (k : ℕ) (rest : List ℕ) → k ≤ length text → G (take k text ++ rest) → k ≤ n

-- a date-time of RFC 3339
abbrev pub IsPlain : List ℕ → Type 0
IsPlain text = (p : Parts) × IsDateTime text p

-- the seconds of an offset, or nothing
abbrev pub AreSeconds : List ℕ → Type 0
AreSeconds text = (text ≡ []) ⊎ ((second : ℕ) × (second < 60) × (text ≡ codes ":" ++ last_digits 2 second))

-- what follows the first digits of a longer year: a date-time of RFC 3339, with the seconds of its offset or without
abbrev pub IsTail : List ℕ → Type 0
IsTail text =
    IsPlain text ⊎ ((front after : List ℕ) × IsPlain front × (has_signed_offset front ≡ true) × AreSeconds after × (text ≡ front ++ after))

-- the grammar derives the text
abbrev pub IsIso : List ℕ → Type 0
IsIso text = (p : IsoParts) × IsIsoDateTime text p
