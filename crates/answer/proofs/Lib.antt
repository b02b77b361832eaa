-- Laws of a line's answer.
pub mod AskLaws
pub mod TellLaws
pub mod ServeLaws
pub mod CallLaws
pub mod UnheardLaws
pub mod AnswerLaws
pub mod HoldLaws
pub mod Once
pub mod Enough
