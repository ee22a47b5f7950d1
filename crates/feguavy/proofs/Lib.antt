-- The laws of this crate: what its proofs use, and that its numbers tell outcomes apart.
pub mod Answered
pub mod Numbers
