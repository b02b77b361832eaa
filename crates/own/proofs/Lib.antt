-- The laws of `specs/`, and how firm its statement is.
pub mod OrderLaws
pub mod FormLaws
pub mod TurnLaws
pub mod PostLaws
pub mod OwnedLaws
pub mod EntryLaws
pub mod ToldLaws
pub mod Firm
pub mod Answered
pub mod Room
