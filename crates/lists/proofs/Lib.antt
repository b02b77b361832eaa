-- Laws of lists as text.
pub mod FindLaws
pub mod PartLaws
pub mod ListLaws
pub mod LineLaws
pub mod NumberLaws
pub mod Exact
