-- Laws of hex, for every crate that reads or writes it.
pub mod HexLaws
pub mod CodeLaws
pub mod Once
