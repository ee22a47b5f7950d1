-- The laws that callers of this crate use; the functions' proofs need none.
pub mod Entries
