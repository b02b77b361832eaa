-- Laws of the feeding.
pub mod HeldLaws
pub mod TellLaws
pub mod PastLaws
pub mod EngineLaws
pub mod AnswerLaws
pub mod FeedLaws
pub mod EntryLaws
pub mod WholeLaws
pub mod SizedLaws
