-- The agreed records by the words of a row.
pub mod PlaceLaws
pub mod Places
