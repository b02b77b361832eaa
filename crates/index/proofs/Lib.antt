-- The laws of the index, for the proofs of this crate and of the crates above it.
pub mod CaseLaws
pub mod FirstLaws
pub mod TableLaws
pub mod NextLaws
pub mod LentLaws
pub mod FormLaws
pub mod SweepLaws
pub mod WalkLaws
pub mod Once
