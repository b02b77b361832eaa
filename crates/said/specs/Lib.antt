-- Questions and their answers, and demand 3 of them.
pub mod Said
pub mod Demand3
pub mod Spoken
pub mod Numbered
