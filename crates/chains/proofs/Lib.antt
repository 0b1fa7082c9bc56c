-- Theorems on chains of items, and the functions' proofs.
pub mod Flips
pub mod Counts
pub mod Cycle
pub mod Members
pub mod Steps
pub mod Antichain
pub mod Together
pub mod Threads
pub mod Reports
pub mod Pairs
pub mod Extending
pub mod Joining
pub mod Looping
