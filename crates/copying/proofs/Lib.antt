-- The fair copy of a log: its theorems are in FairCopies; the other modules lead to them and to the proof of the code.
pub mod Linked
pub mod VoicesWords
pub mod Tables
pub mod GroupLinks
pub mod ReadBack
pub mod FairCopies
pub mod Older
pub mod Rows
pub mod Groups
pub mod Copies
pub mod Worked
pub mod Calls
