-- Demand 3 of the words that the engine's entries made.
pub mod Filed
pub mod Leased
