-- The laws behind the functions' proofs, and those that callers of this crate use.
pub mod Appended
pub mod Decimals
pub mod Lists
pub mod Lengths
pub mod Edges
pub mod Pairs
