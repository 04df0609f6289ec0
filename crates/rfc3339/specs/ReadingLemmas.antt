-- The reading of a text: one that spells numbers, one that was written, and one that does not have the form.
use Rattle.std.proofs.Common.{◌≡◌, ℕ, ℤ, List, Option, Some, None, Ok, Err, IfOk, refl, ap, inl, inr, ◌∙◌, arith}
use Rattle.std.specs.Prelude.{◌⊎◌}
use Rattle.calendar_values.specs.WallClock.{IsInstant}
use Rattle.offset_times.specs.Local.{Local, local_in_utc, instant_of}
use Rattle.rfc3339.specs.Form.{IsDateTime}
use Rattle.rfc3339.specs.Meaning.{meaning, value_of, AreInRange}
use Rattle.rfc3339.specs.Reading.{parts_at, reading_of, meaning_if_any}
use Rattle.rfc3339.specs.Texts.{HasText, rfc3339_text, HasFixedText, fixed_text, parts_of}
use Rattle.rfc3339.specs.declared.parts.Parts.{Parts}
use Rattle.rfc3339.specs.declared.refusal.TextRefusal.TheVariants.{Syntax}
use Rattle.rfc3339.specs.FractionLemmas.{IsFraction-below}
use Rattle.rfc3339.specs.FullDateLemmas.{full_date_reading_of-spelled, full_date_reading_of-syntax, full_date_reading_of-written}
use Rattle.rfc3339.specs.MeaningLemmas.{read_of, has_text_of}
use Rattle.rfc3339.specs.ReadInstantLemmas.{instant_of_read}
use Rattle.rfc3339.specs.TextLemmas.{parts_takes, parts_again}
use Rattle.rfc3339.specs.ValueLemmas.{IsDateTime-text, meaning-text, IsDateTime-fixed, meaning-fixed}

-- the reading of a text is the meaning of its numbers, if there are any
pub reading_of-parts : (text : List ℕ) (o : Option Parts) → parts_at text ≡ o → reading_of text ≡ meaning_if_any o
unfolding reading_of
reading_of-parts text o e = ap meaning_if_any e

-- the reading of a text that spells numbers is their meaning
pub reading_of-spelled : (text : List ℕ) (p : Parts) → IsDateTime text p → reading_of text ≡ meaning p
reading_of-spelled text p h = reading_of-parts text (Some p) (parts_again text p h)

-- the reading of any other text is a syntax error
syntax_of : (text : List ℕ) (o : Option Parts) → parts_at text ≡ o → (reading_of text ≡ Err Syntax) ⊎ ((p : Parts) × IsDateTime text p)
syntax_of text None e = inl (reading_of-parts text None e)
syntax_of text (Some p) e = inr (p, parts_takes text p e)

pub reading_of-syntax : (text : List ℕ) → (reading_of text ≡ Err Syntax) ⊎ ((p : Parts) × IsDateTime text p)
reading_of-syntax text = syntax_of text (parts_at text) refl

-- a text that is read spells numbers in their ranges
accepted_of_parts : (text : List ℕ) (o : Option Parts) → parts_at text ≡ o
    → IfOk (reading_of text) (λ at. (p : Parts) × IsDateTime text p × AreInRange p × (at ≡ value_of p))
accepted_of_parts text None e = rw (reading_of-parts text None e) tt
accepted_of_parts text (Some p) e = read_of text p (reading_of text) (reading_of-parts text (Some p) e) (parts_takes text p e)

pub reading_of-accepted : (text : List ℕ)
    → IfOk (reading_of text) (λ at. (p : Parts) × IsDateTime text p × AreInRange p × (at ≡ value_of p))
reading_of-accepted text = accepted_of_parts text (parts_at text) refl

-- and its value has a text
has_text_of_parts : (text : List ℕ) (o : Option Parts) → parts_at text ≡ o → IfOk (reading_of text) HasText
has_text_of_parts text None e = rw (reading_of-parts text None e) tt
has_text_of_parts text (Some p) e =
    let h = parts_takes text p e in
    let nanosecond = IsFraction-below h.fraction p.nanosecond h.is_fraction in
    has_text_of p (reading_of text) (reading_of-parts text (Some p) e) nanosecond (omega (arith, h.fits.year))

pub reading_of-has_text : (text : List ℕ) → IfOk (reading_of text) HasText
reading_of-has_text text = has_text_of_parts text (parts_at text) refl

-- its instant is in the range
pub reading_of-instant : (text : List ℕ) → IfOk (reading_of text) (λ at. IsInstant (instant_of at))
reading_of-instant text = instant_of_read (reading_of text) (reading_of-has_text text)

-- a written text is read back, offset included
pub reading_of-written : (at : Local) → HasText at → reading_of (rfc3339_text at) ≡ Ok at
reading_of-written at h = reading_of-spelled (rfc3339_text at) (parts_of at) (IsDateTime-text at h) ∙ meaning-text at h

pub reading_of-written_fixed : (i : ℤ) → HasFixedText i → reading_of (fixed_text i) ≡ Ok (local_in_utc i)
reading_of-written_fixed i h =
    reading_of-spelled (fixed_text i) (parts_of (local_in_utc i)) (IsDateTime-fixed i h) ∙ meaning-fixed i h

-- the rules for callers that read texts, days alone too
pub ruleset readings = (
  reading_of-spelled,
  reading_of-syntax,
  reading_of-accepted,
  reading_of-has_text,
  reading_of-instant,
  reading_of-written,
  reading_of-written_fixed,
  full_date_reading_of-spelled,
  full_date_reading_of-syntax,
  full_date_reading_of-written,
)
