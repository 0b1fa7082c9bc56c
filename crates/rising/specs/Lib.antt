-- What the steps to the ways of links that rise leave.
pub mod Rising
