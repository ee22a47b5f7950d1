-- The laws of this crate that its proofs use.
pub mod Taking
