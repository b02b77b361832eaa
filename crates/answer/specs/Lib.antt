-- What the contracts of `answer` cite.
pub mod Replies
pub mod Asks
pub mod Calls
pub mod Unheard
pub mod Text
pub mod Says
pub mod Hold
pub mod Ample
