-- What the contracts of `print` cite.
pub mod Bytes
pub mod Decimal
pub mod Text
