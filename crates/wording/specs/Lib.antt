-- What the contracts of `wording` cite.
pub mod Fault
pub mod Number
pub mod Put
