-- Laws of traces under other names, and what is proved of translations.
pub mod NameLaws
pub mod LineLaws
pub mod TraceLaws
pub mod TextLaws
pub mod EntryLaws
pub mod BackLaws
pub mod Once
