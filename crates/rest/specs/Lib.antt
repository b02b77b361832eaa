-- A site at rest, the step `rest`, and what it leaves as it was (Q-6).
pub mod Rest
pub mod Rests
pub mod Deeds
