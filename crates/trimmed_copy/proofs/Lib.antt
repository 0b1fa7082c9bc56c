-- A trimmed copy call by its questions, and what it leaves.
pub mod TrimCalls
pub mod Trimmed
