-- Chains and antichains over any type.
pub mod Order
