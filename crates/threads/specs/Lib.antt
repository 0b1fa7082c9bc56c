-- What asking for a thread answers.
pub mod Found
