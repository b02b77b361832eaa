-- Runs at the desk, and what holds of them.
pub mod Runs
pub mod Safe
