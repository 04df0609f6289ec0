-- The texts of refusals.
use Rattle.std.specs.Prelude.{ℕ, List, ◌++◌, codes, decimal}
use Rattle.duration_texts.specs.declared.faults.DurationFault.{DurationFault}
use Rattle.duration_texts.specs.declared.faults.DurationFault.TheVariants.{Digit, Unit, Calendar, Alone, Fraction, Range}
use Rattle.duration_texts.specs.declared.faults.DurationRefusal.{DurationRefusal}

-- the words for a fault
abbrev pub fault_text : DurationFault → List ℕ
fault_text Digit = codes "no digit"
fault_text Unit = codes "no unit"
fault_text Calendar = codes "no fixed length"
fault_text Alone = codes "no unit after the number"
fault_text Fraction = codes "no whole nanoseconds"
fault_text Range = codes "duration out of range"

-- a fault and its place
abbrev pub refusal_text : DurationRefusal → List ℕ
refusal_text refusal = fault_text refusal.fault ++ codes " at byte " ++ decimal refusal.place
