-- The items in the work words.
pub mod Listed
pub mod Pairing
