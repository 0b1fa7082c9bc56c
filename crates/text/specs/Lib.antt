-- The text that is printed, and what a text call gives and leaves.
pub mod Text
pub mod Put
pub mod ReadBack
pub mod Printed
