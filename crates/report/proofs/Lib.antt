-- A report call by its questions, and what it leaves.
pub mod Asked
pub mod Outcomes
pub mod Voices
pub mod Reported
pub mod Answers
pub mod Calls
