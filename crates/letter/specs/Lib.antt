-- What the contracts of `place` cite.
pub mod Place
pub mod Lent
pub mod Faults
