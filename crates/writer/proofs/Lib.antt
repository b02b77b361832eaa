-- From lent words to the groups of numbers that their bytes are.
pub mod PutLaws
pub mod BoxLaws
pub mod MailLaws
pub mod EntryLaws
pub mod WholeLaws
pub mod Once
pub mod RoomLaws
