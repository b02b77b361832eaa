-- What the contracts of `scan` cite.
pub mod Bytes
