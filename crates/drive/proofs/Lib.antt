-- The driver keeps what it promises.
pub mod DriveLaws
pub mod ExampleLaws
pub mod Once
