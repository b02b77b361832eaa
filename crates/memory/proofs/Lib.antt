-- The laws of the lent words, for the proofs of this crate and of the crates above it.
pub mod SizeLaws
pub mod LentLaws
pub mod HasLaws
pub mod EveryLaws
pub mod PutLaws
pub mod RowLaws
pub mod EachLaws
pub mod ElectLaws
pub mod LinkLaws
pub mod SendLaws
pub mod FormLaws
