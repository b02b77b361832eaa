-- A script's questions, and what the driver promises of their answers.
pub mod Script
pub mod Driven
pub mod Example
