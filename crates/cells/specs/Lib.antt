-- What the contracts of `cells` cite, and those of every crate that writes or reads an image.
pub mod Cells
pub mod Groups
pub mod Stored
pub mod Steps
