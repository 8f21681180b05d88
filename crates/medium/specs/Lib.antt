pub mod Check
pub mod Medium
