-- Rows of bits and tables in lent words.
pub mod Bits
pub mod Ones
pub mod Work
