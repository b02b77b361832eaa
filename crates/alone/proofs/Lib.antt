-- Boxes by themselves: their step is the site's, what they do is a run, and demand 3 holds of it.
pub mod OwnStep
pub mod Mirror
pub mod Odd
pub mod Lives
pub mod Keeps
