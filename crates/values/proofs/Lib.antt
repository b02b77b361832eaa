-- The laws of words as numbers, for the proofs of this crate and of the crates above it.
pub mod AllLaws
pub mod RecordLaws
pub mod CountLaws
pub mod SetLaws
pub mod FaultLaws
