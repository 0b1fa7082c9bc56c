-- What is promised, and its proof. Promises is the module to read first.
pub mod Promises
pub mod Choices
pub mod Said
pub mod SmallLogs
pub mod ThreadsLeft
pub mod Texts
