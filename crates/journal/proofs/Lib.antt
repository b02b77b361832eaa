-- Laws of the exported functions.
pub mod NumberedLaws
pub mod SizeLaws
pub mod Once
pub mod Soon
pub mod BodiesOnce
pub mod RestLaws
pub mod DeskOnce
