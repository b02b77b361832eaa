-- Boxes by themselves and their carrier, and what holds of them.
pub mod Links
pub mod Apart
pub mod Yard
pub mod Alone
