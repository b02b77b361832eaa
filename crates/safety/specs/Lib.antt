-- Demand 3, Q-10, the room of Q-4 and the lease of Q-12, in statements.
pub mod Demand3
pub mod Begins
pub mod Rooms
pub mod Heard
