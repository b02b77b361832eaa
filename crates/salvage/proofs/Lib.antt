-- Laws of a sound table, of what boxes keep, and of the text that tells it.
pub mod TableLaws
pub mod LoadLaws
pub mod SaidLaws
pub mod TextLaws
pub mod LinesLaws
pub mod BodyLaws
pub mod PartsLaws
pub mod KeptLaws
pub mod Once
