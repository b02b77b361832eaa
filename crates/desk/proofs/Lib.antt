-- Laws of the pairing desk.
pub mod SideLaws
pub mod NearLaws
pub mod DeskLaws
pub mod OfferLaws
pub mod Chosen
pub mod Told
pub mod Once
