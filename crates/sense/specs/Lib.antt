pub mod Report
pub mod Ladder
pub mod Codes
