-- Laws of the texts, each proved by a function of `src/laws.rt`.
use Rattle.std.specs.Prelude.{◌≡◌, List, ℕ, Ok}
use Rattle.offset_times.specs.Local.{Local, IsLocal}
use Rattle.rfc3339.specs.Texts.{HasText, rfc3339_text}
use Rattle.iso_texts.specs.IsoForms.{IsIsoDateTime}
use Rattle.iso_texts.specs.IsoMeaning.{iso_meaning}
use Rattle.iso_texts.specs.IsoReading.{iso_reading_of}
use Rattle.iso_texts.specs.IsoTexts.{iso_text}
use Rattle.iso_texts.specs.declared.parts.IsoParts.{IsoParts}

-- a text spells one list of numbers at most
abbrev pub IsoTextsHaveOneReading : Type 0
IsoTextsHaveOneReading = (text : List ℕ) (p q : IsoParts) → IsIsoDateTime text p → IsIsoDateTime text q → p ≡ q

-- each date-time of the range has a text that the grammar derives and that is read back, with its offset
abbrev pub EveryDateTimeReadsBack : Type 0
EveryDateTimeReadsBack =
    (at : Local) → IsLocal at → ((p : IsoParts) × IsIsoDateTime (iso_text at) p × (iso_meaning p ≡ Ok at))
    × (iso_reading_of (iso_text at) ≡ Ok at)

-- two date-times with one text are one value
abbrev pub IsoTextsTellDateTimes : Type 0
IsoTextsTellDateTimes = (a b : Local) → IsLocal a → IsLocal b → iso_text a ≡ iso_text b → a ≡ b

-- a date-time that has a text of RFC 3339 has that text
abbrev pub IsoTextsAreThoseOfRfc3339 : Type 0
IsoTextsAreThoseOfRfc3339 = (at : Local) → HasText at → iso_text at ≡ rfc3339_text at
