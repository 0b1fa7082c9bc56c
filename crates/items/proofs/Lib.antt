-- What is proved of the items in the work words. Graphs is the module to read first.
pub mod Graphs
pub mod Owners
pub mod Listing
pub mod Rows
pub mod Pairs
