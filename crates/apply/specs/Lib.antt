-- What the contracts of `apply` cite.
pub mod Room
