-- The laws of this crate that its proofs use, and its examples.
pub mod Examples
pub mod Feeding
pub mod Fields
pub mod Flushing
pub mod Lining
pub mod Replying
pub mod Requesting
