-- The laws behind the functions' proofs, and those that callers of this crate use.
pub mod Frames
pub mod Redexes
pub mod WordKinds
pub mod Heads
pub mod Deciding
pub mod Moving
pub mod Surrounding
pub mod Placing
pub mod Replacing
pub mod Names
