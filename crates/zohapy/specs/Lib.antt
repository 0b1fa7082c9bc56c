-- What the exported functions answer.
pub mod Exported
