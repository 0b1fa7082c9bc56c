-- Theorems on ways, covers, apart sets and loops. Theorems is the module to read first.
pub mod Theorems
pub mod Ways
pub mod Threads
pub mod Numbers
pub mod Counting
pub mod Items
pub mod Passing
pub mod Duality
pub mod Furthest
pub mod Fits
pub mod Loops
pub mod Same
pub mod Links
pub mod Trimming
pub mod Checker
pub mod OneVoice
pub mod Worked
