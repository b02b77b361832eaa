-- Laws of the step over lent words.
pub mod RowLaws
pub mod EachLaws
pub mod EntryLaws
pub mod Once
