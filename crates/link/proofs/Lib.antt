-- The laws of `specs/`, for the proofs of this crate and of the crates above it.
pub mod TestLaws
pub mod LinkLaws
pub mod HoldLaws
pub mod ScanLaws
pub mod DoubleLaws
