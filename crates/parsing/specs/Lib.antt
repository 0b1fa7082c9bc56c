-- A whole report by its layout, and what is found in one.
pub mod Whole
pub mod Parsing
