-- Words that the engine's entries made, and what holds of them.
pub mod Served
pub mod Leased
