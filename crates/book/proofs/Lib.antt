pub mod Lines
pub mod Newest
