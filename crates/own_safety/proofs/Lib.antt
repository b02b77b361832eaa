-- Demand 3 of boxes by themselves in words.
pub mod EntryLaws
pub mod Read
pub mod Goes
pub mod Stand
pub mod Lives
pub mod Alike
pub mod Safely
