-- What the exported functions promise.
pub mod Answered
pub mod Numbered
pub mod Images
pub mod Unheard
pub mod Longer
pub mod Find
pub mod Run
pub mod Rest
pub mod Soon
pub mod Bodies
pub mod Desk
