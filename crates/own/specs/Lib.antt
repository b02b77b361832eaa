-- What the contracts of `own` cite.
pub mod Entry
pub mod Lent
