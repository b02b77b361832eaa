-- The laws of `specs/`, for the proofs of this crate and of the crates above it.
pub mod NumberLaws
pub mod PeerLaws
pub mod FormLaws
pub mod SameLaws
pub mod StoreLaws
pub mod BookLaws
pub mod IndexLaws
pub mod AfterLaws
pub mod TurnLaws
pub mod HeadLaws
pub mod PlayLaws
pub mod AgreedLaws
