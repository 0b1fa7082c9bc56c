-- What a fair copy call gives and leaves.
pub mod Copied
