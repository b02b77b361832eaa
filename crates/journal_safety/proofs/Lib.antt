-- Demand 3 of the functions for C.
pub mod Ran
pub mod Numbered
