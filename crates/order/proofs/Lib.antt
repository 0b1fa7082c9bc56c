-- Theorems on chains and antichains.
pub mod Lists
pub mod Chains
pub mod Pigeonhole
pub mod Dilworth
