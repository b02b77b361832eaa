-- Laws of the first place of a byte.
pub mod ScanLaws
