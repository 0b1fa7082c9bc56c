-- A link count call by its questions, and the links that it counts.
pub mod Counting
