-- What the contracts of `renamed` cite, and what is proved of them.
pub mod Names
pub mod Read
pub mod Trace
pub mod Judge
pub mod Translate
pub mod BothWays
