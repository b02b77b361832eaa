-- From what a part's walk finds to what the whole's does.
pub mod BoxesLaws
pub mod BodiesLaws
pub mod ImageLaws
pub mod Once
