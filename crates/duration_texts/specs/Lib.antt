pub mod Pieces
pub mod Numbers
pub mod Units
pub mod Reading
pub mod Grammar
pub mod Texts
pub mod Refusals
