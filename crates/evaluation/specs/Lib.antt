-- What the contracts of this crate cite.
pub mod Outcomes
pub mod Ends
pub mod Courses
