-- What the contracts of `memory` cite.
pub mod Memory
pub mod After
pub mod Parts
