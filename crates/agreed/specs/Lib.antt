-- What the contracts of `agreed` cite.
pub mod Agreed
pub mod Places
