-- The laws of `specs/Le.antt`, for the proofs of this crate and of the crates above it.
pub mod LeLaws
