-- Laws of the run over lent words.
pub mod FirstLaws
pub mod MailLaws
pub mod LeaderLaws
pub mod TookLaws
pub mod GoneLaws
pub mod RunLaws
pub mod Once
pub mod Soon
