-- The engines that the paper shuts out by name.
pub mod Engines
