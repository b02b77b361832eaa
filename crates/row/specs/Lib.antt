-- What the contracts of `row` cite.
pub mod Row
pub mod Lent
pub mod Faults
