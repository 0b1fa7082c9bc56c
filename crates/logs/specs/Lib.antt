-- What the words of a log mean.
pub mod Words
pub mod Kinds
pub mod Answer
pub mod Content
pub mod Log
pub mod Earlier
pub mod Places
pub mod Groups
pub mod Voices
pub mod Passing
pub mod Hear
pub mod Shown
