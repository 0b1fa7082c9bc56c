-- The bytes of a log as words.
pub mod Input
