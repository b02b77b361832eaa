-- What the contracts of `bodies` cite, and what they say of the image of a site.
pub mod Contents
pub mod Handed
pub mod Walked
