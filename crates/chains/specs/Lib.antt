-- What the functions that join chains leave, a loop from a search, and the threads that chains are filled to.
pub mod Cycles
pub mod Joined
pub mod Threads
