-- The ways of links that rise.
pub mod Rising
pub mod Front
