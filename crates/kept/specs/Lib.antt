-- What the contracts of this crate cite.
pub mod Writing
pub mod Rewriting
