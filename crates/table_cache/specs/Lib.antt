pub mod Table
pub mod Modeled
pub mod TableKeeps
