-- What the contracts of this crate cite.
pub mod Moving
pub mod Inference
