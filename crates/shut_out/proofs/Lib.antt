-- No engine that keeps what `step` promises is one of them.
pub mod Given
pub mod Proposed
pub mod Replies
pub mod Shut
