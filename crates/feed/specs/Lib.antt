-- What the contracts of `feed` cite.
pub mod State
pub mod Sized
pub mod Rows
pub mod Says
pub mod Entries
pub mod Whole
