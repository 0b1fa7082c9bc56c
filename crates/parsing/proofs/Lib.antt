-- How each function takes a report's words apart.
pub mod ApartWords
pub mod Runs
pub mod ThreadParse
pub mod Wholes
