-- What the step `rest` promises over lent words.
pub mod Rested
