-- What the contracts of `le` cite.
pub mod Le
