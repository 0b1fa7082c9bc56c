-- Chains of items, the search, and what its functions leave in the work words.
pub mod Items
pub mod State
