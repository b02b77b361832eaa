-- What the contracts of `by_lines` cite.
pub mod Run
pub mod Whole
