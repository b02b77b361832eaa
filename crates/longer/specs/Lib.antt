-- What the contracts of `longer` cite.
pub mod Longer
pub mod Told
