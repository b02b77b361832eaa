-- What the contracts of `salvage` cite: the block of an image (Q-8).
pub mod Table
pub mod Loads
pub mod Tally
pub mod Block
pub mod Put
