-- Directed graphs on the episodes 0 to n - 1, each with its voices, and the numbers that pass a test.
pub mod Graph
pub mod Items
pub mod OneVoice
pub mod Links
pub mod Closure
pub mod Trimmed
pub mod Passing
