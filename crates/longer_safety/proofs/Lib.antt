-- Two boxes of one site never differ.
pub mod Lists
pub mod NeverDiffers
