-- Boxes by themselves in words, and what holds of what they answered.
pub mod Boards
pub mod Worked
