-- What the contracts of `index` cite.
pub mod Index
pub mod Lent
pub mod Found
