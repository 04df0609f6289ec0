pub mod LocalForms
pub mod LocalFaults
pub mod LocalCallerLemmas
pub mod Callers
pub mod Words
