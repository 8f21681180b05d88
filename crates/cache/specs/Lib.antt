pub mod Entries
pub mod WriteBack
pub mod Preserves
pub mod Kinds
pub mod Modeled
