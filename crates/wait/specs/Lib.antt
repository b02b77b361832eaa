-- The run after an election (Q-9), and how soon the scale is usable.
pub mod Run
pub mod Wait
