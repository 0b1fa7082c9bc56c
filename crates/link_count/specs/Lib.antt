-- What a link count call gives.
pub mod Counted
