-- The laws behind the functions' proofs.
pub mod Admitting
pub mod Judging
pub mod Example
pub mod Room
