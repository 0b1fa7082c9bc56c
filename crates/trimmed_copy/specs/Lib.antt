-- What a trimmed copy call gives and leaves.
pub mod Trimmed
pub mod Answering
