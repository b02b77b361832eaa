-- What is stated of undamaged images.
pub mod Undamaged
pub mod Kept
