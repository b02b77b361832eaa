-- What the contracts of `words` cite.
pub mod Rows
pub mod Ring
