-- The laws behind the functions' proofs.
pub mod States
pub mod Turns
pub mod Answers
pub mod Maps
