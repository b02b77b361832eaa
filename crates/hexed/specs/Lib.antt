-- What the contracts of `hexed` cite.
pub mod Hex
