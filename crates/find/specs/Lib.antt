-- What the contracts of `find` cite.
pub mod Find
pub mod Smallest
