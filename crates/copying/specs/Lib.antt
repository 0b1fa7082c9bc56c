-- The fair copy of a log, and what the steps to it leave.
pub mod FairCopy
pub mod Earlier
pub mod Copying
pub mod Calls
