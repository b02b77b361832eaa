-- The laws of `specs/`, for the proofs of this crate and of the crates above it.
pub mod PartLaws
pub mod RowLaws
pub mod RingLaws
pub mod WriteLaws
pub mod TestLaws
