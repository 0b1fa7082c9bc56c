-- The trimmed copy of a log, and what the steps to it leave.
pub mod TrimmedCopy
pub mod Trimming
