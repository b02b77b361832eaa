-- What the contracts of `until` cite, and how soon the scale is usable.
pub mod Until
pub mod Turns
pub mod Soon
