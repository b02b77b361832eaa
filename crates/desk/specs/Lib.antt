-- What the contracts of `desk` cite.
pub mod Sides
pub mod Near
pub mod Desk
pub mod Offer
pub mod Told
