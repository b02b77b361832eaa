-- What the contracts of `link` cite.
pub mod Link
pub mod Holds
