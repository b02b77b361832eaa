-- The answer by the words of a row, and that there is one.
pub mod FindLaws
pub mod Once
