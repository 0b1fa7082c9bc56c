-- The matrix of ways of a log.
pub mod Reach
