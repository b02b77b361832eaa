-- Laws of the longer of two lists.
pub mod BeginLaws
pub mod FromLaws
pub mod WhichLaws
pub mod Told
