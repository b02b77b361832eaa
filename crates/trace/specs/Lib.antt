-- "Replay": the whole input to the whole output, and the same fed in pieces.
pub mod Lines
pub mod Feeding
pub mod Replay
pub mod Stops
pub mod Worked
