pub mod Bytes
pub mod Places
pub mod Steps
pub mod Sequence
pub mod Meaning
pub mod Keeps
