-- The laws behind the functions' proofs, and those that callers of this crate use.
pub mod Words
pub mod Visits
pub mod Walking
pub mod Skimming
pub mod Stacked
pub mod Turns
pub mod Whole
pub mod Finding
pub mod Nodes
pub mod Keeping
pub mod KeptLengths
pub mod Maps
