-- From what a part's walk finds to what the whole's does.
pub mod MailLaws
