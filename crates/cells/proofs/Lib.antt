-- The laws of `specs/Cells.antt`, for the proofs of this crate and of the crates above it.
pub mod ChainLaws
pub mod WriteLaws
pub mod StandLaws
pub mod CodeLaws
pub mod WalkLaws
pub mod StoreLaws
pub mod FindLaws
pub mod GroupLaws
