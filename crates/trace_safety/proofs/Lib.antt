-- Demand 3 of the lines of a trace.
pub mod Load
pub mod Traced
