-- What the contracts of `site` cite.
pub mod Entries
pub mod Verdicts
pub mod General
pub mod Carry
pub mod Calls
