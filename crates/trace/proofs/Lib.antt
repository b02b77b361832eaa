-- Theorems of the replay.
pub mod Pieces
pub mod FirstRefused
