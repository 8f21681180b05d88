pub mod Data
pub mod Module
pub mod Calls
pub mod Writes
pub mod Work
pub mod Limits
pub mod Refusals
