-- Laws of bits, and the functions' proofs.
pub mod Digits
pub mod Parts
pub mod Rows
pub mod Joins
pub mod Frames
pub mod Matrices
pub mod Left
pub mod Pairs
