-- Laws of the reading of a line.
pub mod ReadLaws
pub mod NumberLaws
pub mod Exact
pub mod Ranges
pub mod HoldLaws
