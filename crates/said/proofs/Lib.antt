-- Demand 3 of questions and answers, proved.
pub mod Lines
pub mod Past
pub mod Example
pub mod Spoke
pub mod Retold
pub mod ByNumbers
