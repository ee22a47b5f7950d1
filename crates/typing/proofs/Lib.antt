-- The laws behind the functions' proofs.
pub mod Checking
pub mod Maps
