-- Laws of the wording: what its contracts cite, and the number read back.
pub mod FaultLaws
pub mod NumberLaws
pub mod PutLaws
