-- How the links of a log are marked and their closure is made, and the functions' proofs.
pub mod Marks
pub mod Rounds
pub mod Reached
