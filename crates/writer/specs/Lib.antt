-- What the contracts of `writer` cite.
pub mod Bodies
pub mod Writer
