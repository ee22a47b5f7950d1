-- What the contracts of this crate cite.
pub mod Word
pub mod Walk
pub mod Reasons
pub mod Subterms
pub mod Found
pub mod Kept
