-- What the contracts of `whole` cite.
pub mod Boxes
pub mod Whole
