pub mod Aside
pub mod Turns
pub mod Going
pub mod Asked
pub mod Resting
pub mod Seen
pub mod Rests
pub mod Deeds
