-- A fair copy call by its questions, and what it leaves.
pub mod Copied
pub mod CopyCalls
