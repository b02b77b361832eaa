-- The laws of `specs/`, for the proofs of this crate and of the crates above it.
pub mod KindLaws
pub mod FormLaws
pub mod EncloseLaws
pub mod CopyLaws
