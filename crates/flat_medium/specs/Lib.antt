pub mod Flat
pub mod Modeled
pub mod FlatKeeps
