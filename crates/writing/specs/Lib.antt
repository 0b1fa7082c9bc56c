-- The words of a report and of a loop, and how they are written.
pub mod Layout
pub mod Writing
pub mod Path
