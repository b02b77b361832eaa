-- What the contracts and statements of the crates above cite, beside the model.
pub mod Frames
pub mod Receivers
