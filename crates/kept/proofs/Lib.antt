-- The laws behind the functions' proofs, and those that callers of this crate use.
pub mod Stores
pub mod Begun
pub mod Zeros
pub mod Noting
pub mod Clear
pub mod RaiseSurvey
pub mod InPlace
pub mod Composed
pub mod Putting
