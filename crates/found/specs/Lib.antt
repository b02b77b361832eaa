-- What the contracts of `found` cite: what can be read from a damaged image (Q-8).
pub mod Stands
pub mod Found
pub mod Near
