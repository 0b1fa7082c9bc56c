-- How a text is put together, and its laws.
pub mod Puts
pub mod Parts
pub mod Room
pub mod Fits
pub mod Outcomes
pub mod Calls
pub mod Laws
pub mod ReadBack
