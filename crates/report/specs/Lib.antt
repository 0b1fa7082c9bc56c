-- What a report call gives and leaves, and which logs are accepted.
pub mod Report
pub mod Accepted
pub mod Solving
pub mod Shown
