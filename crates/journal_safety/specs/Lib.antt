-- Words that the functions for C made, and what holds of them.
pub mod Ran
pub mod Called
