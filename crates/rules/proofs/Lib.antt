pub mod Tests
pub mod BoundLaws
pub mod PartLaws
pub mod NumberLaws
