-- The list of an undamaged image is true.
pub mod ReadLaws
pub mod BoxLaws
pub mod HeldLaws
pub mod SiteLaws
pub mod Undamaged
pub mod Kept
