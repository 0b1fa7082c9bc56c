-- The trimmed copy: its theorems are in TrimmedCopies; the other modules lead to the proof of the code.
pub mod Kept
pub mod TrimmedCopies
pub mod Joining
pub mod Rows
pub mod Calls
