-- Laws of the table of contents and of the reader over it.
pub mod ContentsLaws
pub mod HandedLaws
pub mod PartsLaws
pub mod Walked
pub mod Once
