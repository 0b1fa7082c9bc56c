-- Theorems on one search, and the functions' proofs.
pub mod Searches
pub mod Relations
pub mod Deads
pub mod Frames
pub mod Words
pub mod Marks
pub mod Showing
pub mod Looking
