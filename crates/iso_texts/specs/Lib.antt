pub mod IsoForms
pub mod IsoReading
pub mod IsoMeaning
pub mod IsoTexts
pub mod IsoLaws
pub mod IsoFaults
