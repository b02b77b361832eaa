-- What each part's words hold.
pub mod MailLaws
pub mod BoxLaws
pub mod SiteLaws
