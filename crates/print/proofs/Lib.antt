-- Laws of decimals and of writing text, for every crate that prints.
pub mod DecimalLaws
pub mod WriteLaws
