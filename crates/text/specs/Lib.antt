-- What the contracts of this crate cite.
pub mod Appending
pub mod Pairs
pub mod Texts
