-- What the contracts of `values` cite, and those of the crates whose words have fields.
pub mod Faults
pub mod Counts
