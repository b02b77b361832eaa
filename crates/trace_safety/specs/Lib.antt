-- Lines of a trace that were taken, and what holds of them.
pub mod Taken
