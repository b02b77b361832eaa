-- The paper's section "The site image"; and what the functions on its parts cite.
pub mod Image
pub mod Parts
pub mod Longest
