-- Two boxes of one site, and the longer of their lists.
pub mod NeverDiffers
