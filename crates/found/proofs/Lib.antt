-- Laws of what stands in a body, and of what is found there.
pub mod StandsLaws
pub mod LeadingLaws
pub mod WalkLaws
pub mod FoundLaws
pub mod HeadLaws
