pub mod Entries
pub mod Over
pub mod Working
