-- Laws of the program.
pub mod ImageLaws
pub mod LoopLaws
